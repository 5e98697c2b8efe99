use Rattle.std.proofs.Common.{◌∙◌, ap, subst, sym}
use Rattle.std.specs.Prelude.{All}
use Rattle.std.proofs.lemmas.List.Elements.{All-map}
use Rattle.cb_semirings.specs.Arithmetic.{IsValue}
use Rattle.cb_matrix.specs.declared.Entry.{Entry}
use Rattle.cb_matrix.specs.Values.{total}
use Rattle.cb_reshape.proofs.AllValues.{values_total}
use Rattle.cb_reshape.proofs.sums.total.Goals as goal

pub sum_of_values-requires : goal.sum_of_values-requires
sum_of_values-requires g c =
    let s = g.S.Semiring.arithmetic in
    subst (All (IsValue s)) (sym c.values.ensures) (All-map (IsValue s) (λ (e : Entry). e.value) c.args.block.now.entries c.shape-shape.ensures.matrix.values)

pub returns : goal.returns
returns g c =
    let s = g.S.Semiring.arithmetic in
    c.sum_of_values.ensures.sum ∙ ap (total s) c.values.ensures ∙ values_total s g.met.S.Semiring.is_semiring c.args.block.now c.shape-shape.ensures.matrix
