use Rattle.std.proofs.Common.{◌<◌, length, subst, sym, ◌∙◌}
use Rattle.std.specs.Prelude.{All, ◌==◌}
use Rattle.std.proofs.lemmas.List.Elements.{All-take, All-drop, All-get_or}
use Rattle.cb_semirings.specs.Arithmetic.{IsValue}
use Rattle.cb_product.specs.declared.terms.Term.{Term}
use Rattle.cb_product.specs.Marks.{mark_of}
use Rattle.cb_product.specs.Terms.{IsTerm}
use Rattle.cb_product.proofs.MarkedRows.{term_outside_added, terms_outside_added}
use Rattle.cb_product.proofs.sparse_accumulator.SparseAccumulator.add_terms_outside.Goals as goal

pub loop-term-preserved : goal.loop-term-preserved
loop-term-preserved g c =
    let inv = c.loop-term.invariant in
    let r = c.requires in
    let long = c.add_outside.ensures.length in
    record {
      long = long ∙ inv.long;
      values = c.add_outside.ensures.values;
      sums = λ i li. term_outside_added g.S.Semiring.arithmetic g.met.S.Semiring.is_semiring c.args.rows.now c.args.values.now r.values c.args.terms.now r.terms (λ k. mark_of c.args.excluded.now k == 1) c.loop-term.term-index _ c.loop-term.self _ _ c.loop-term-test.true inv.values long c.add_outside.ensures.sums inv.sums i (subst (λ m. i < m) long li);
    }

pub returns-clause-sums : goal.returns-clause-sums
returns-clause-sums g c =
    let inv = c.loop-term.invariant in
    λ i li. terms_outside_added g.S.Semiring.arithmetic g.met.S.Semiring.is_semiring c.args.rows.now c.args.values.now c.requires.values c.args.terms.now c.requires.terms (λ k. mark_of c.args.excluded.now k == 1) c.loop-term.term-index c.loop-term.self _ c.loop-term-test.false inv.values inv.sums i (subst (λ m. i < m) (sym inv.long) li)

pub add_outside-requires-clause-values : goal.add_outside-requires-clause-values
add_outside-requires-clause-values g c = All-take (IsValue g.S.Semiring.arithmetic) _ _ (All-drop (IsValue g.S.Semiring.arithmetic) _ _ c.requires.values)

pub add_outside-requires-clause-order : goal.add_outside-requires-clause-order
add_outside-requires-clause-order g c =
    let d : Term = record { row = 0; at = 0; end = 0; scale = 0; before = 0; ends = 0 } in
    let term = All-get_or (IsTerm g.S.Semiring.arithmetic c.args.rows.now) c.args.terms.now c.loop-term.term-index d c.loop-term-test.true c.requires.terms in
    term.ascending

pub add_outside-requires-clause-scale : goal.add_outside-requires-clause-scale
add_outside-requires-clause-scale g c =
    let d : Term = record { row = 0; at = 0; end = 0; scale = 0; before = 0; ends = 0 } in
    let term = All-get_or (IsTerm g.S.Semiring.arithmetic c.args.rows.now) c.args.terms.now c.loop-term.term-index d c.loop-term-test.true c.requires.terms in
    term.scale

pub add_outside-requires-clause-inside : goal.add_outside-requires-clause-inside
add_outside-requires-clause-inside g c =
    let inside = subst (λ n. All (λ i. i < n) c.args.rows.now) (sym c.loop-term.invariant.long) c.requires.inside in
    All-take (λ i. i < length c.loop-term.self) _ _ (All-drop (λ i. i < length c.loop-term.self) _ _ inside)

pub returns-clause-length : goal.returns-clause-length
returns-clause-length g c = c.loop-term.invariant.long
