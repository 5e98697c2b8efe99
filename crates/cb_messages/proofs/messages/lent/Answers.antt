use Rattle.std.proofs.Common.{refl, ap, ◌∙◌}
use Rattle.cb_matrix.specs.Sparse.{Extent}
use Rattle.cb_lists.proofs.HeldLists.{lists_are}
use Rattle.cb_messages.proofs.messages.lent.Goals as goal

pub returns-clause-lists : goal.returns-clause-lists
returns-clause-lists g c =
    let m = c.args.block.now in
    let are = lists_are g.S.Semiring.arithmetic m c.shape-shape.ensures.matrix _ _ _ _ c.column_numbers.ensures.numbers c.row_numbers.ensures c.values.ensures c.requires in
    let rows = c.rows.ensures.value ∙ ap (λ (x : Extent). x.rows) c.shape-shape.ensures.shape in
    let cols = c.cols.ensures.value ∙ ap (λ (x : Extent). x.cols) c.shape-shape.ensures.shape in
    record { shape = λ t. record { rows = rows t; cols = cols t }; kind = refl; wide = refl; no_starts32 = refl; columns = are.0; entries = are.1 }
