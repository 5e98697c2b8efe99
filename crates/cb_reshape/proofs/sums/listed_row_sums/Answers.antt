use Rattle.std.proofs.Common.{◌≡◌, length, drop, get_or, replicate, sym, ap, subst, ◌∙◌}
use Rattle.std.specs.Prelude.{All}
use Rattle.std.proofs.lemmas.List.{take_at, length-replicate}
use Rattle.std.proofs.lemmas.List.Elements.{All-replicate}
use Rattle.std.proofs.lemmas.Result.{IfOk-weaker}
use Rattle.cb_matrix.specs.Sparse.{Sparse, Extent}
use Rattle.cb_matrix.specs.Values.{matrix_of}
use Rattle.cb_matrix.specs.Operations.{row_sums}
use Rattle.cb_reshape.proofs.RowTotals.{row_sums_are}
use Rattle.cb_reshape.proofs.sums.listed_row_sums.Goals as goal

pub returns : goal.returns
returns g c =
    let s = g.S.Semiring.arithmetic in
    let laws = g.met.S.Semiring.is_semiring in
    let a = c.args.block.now in
    let items = c.in_ok-sums.sums.items in
    let zeros = c.deref_mut.result.now in
    let new = c.add_row_sums.new.sums in
    let filled : items ≡ replicate c.rows.result c.zero.result = c.in_ok-sums.ensures.items_if_clones_equal (λ y e. e) in
    let zeros_are : zeros ≡ replicate c.rows.result c.zero.result = c.deref_mut.ensures.value ∙ filled in
    let none : All (λ x. x ≡ s.zero) zeros = subst (All (λ x. x ≡ s.zero)) (sym zeros_are) (All-replicate (λ x. x ≡ s.zero) c.rows.result c.zero.result c.zero.ensures) in
    let long : length zeros ≡ c.rows.result = ap length zeros_are ∙ length-replicate c.rows.result c.zero.result in
    let size : length new ≡ c.in_ok-sums.sums.len = c.add_row_sums.ensures.length ∙ c.deref_mut.ensures.len in
    let written : c.deref.result.now ≡ new = c.deref.ensures.value ∙ take_at new (drop (length new) items) c.in_ok-sums.sums.len size in
    let rows : c.rows.result ≡ a.shape.rows = c.rows.ensures.value ∙ ap (λ (x : Extent). x.rows) c.one_column-shape.ensures ∙ ap (λ (x : Extent). x.rows) c.shape.ensures.shape in
    IfOk-weaker c.column_of_list.result (λ (m : Sparse). m ≡ matrix_of s c.one_column-shape.result (λ i _. get_or c.deref.result.now i s.zero)) (λ (m : Sparse). m ≡ row_sums s a)
    (λ m is. row_sums_are s laws a m c.one_column-shape.result zeros new c.shape.ensures.matrix (c.one_column-shape.ensures ∙ ap (λ (x : Extent). let y : Extent = record { rows = x.rows; cols = 1 } in y) c.shape.ensures.shape) none (long ∙ rows) c.add_row_sums.ensures.sums (is ∙ ap (λ xs. matrix_of s c.one_column-shape.result (λ i _. get_or xs i s.zero)) written)) c.column_of_list.ensures
