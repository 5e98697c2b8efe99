use Rattle.std.proofs.Common.{sym, subst}
use Rattle.std.specs.Prelude.{All}
use Rattle.std.proofs.lemmas.List.Elements.{All-map}
use Rattle.cb_semirings.specs.Arithmetic.{IsValue}
use Rattle.cb_matrix.specs.declared.Entry.{Entry}
use Rattle.cb_matrix.specs.Sparse.{IsInside}
use Rattle.cb_kept.specs.Triples.{entry_of}
use Rattle.cb_kept.proofs.triples.block_of.Goals as goal

pub collect-requires-clause-inside : goal.collect-requires-clause-inside
collect-requires-clause-inside g c =
    subst (All (IsInside c.args.shape)) (sym c.in_ok-entries.ensures) (All-map (IsInside c.args.shape) entry_of c.args.triples.now c.requires.within)

pub collect-requires-clause-values : goal.collect-requires-clause-values
collect-requires-clause-values g c =
    let P = λ (e : Entry). IsValue g.S.Semiring.arithmetic e.value in
    subst (All P) (sym c.in_ok-entries.ensures) (All-map P entry_of c.args.triples.now c.requires.values)
