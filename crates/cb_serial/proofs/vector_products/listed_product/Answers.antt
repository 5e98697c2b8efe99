use Rattle.std.proofs.Common.{◌≡◌, length, drop, get_or, replicate, sym, ap, subst, ◌∙◌}
use Rattle.std.specs.Prelude.{All}
use Rattle.std.proofs.lemmas.List.{take_at, length-replicate}
use Rattle.std.proofs.lemmas.List.Elements.{All-replicate}
use Rattle.std.proofs.lemmas.Result.{IfOk-weaker}
use Rattle.cb_matrix.specs.Sparse.{Sparse, Extent}
use Rattle.cb_matrix.specs.Values.{matrix_of, product, product_shape}
use Rattle.cb_serial.proofs.ListedSums.{sums_are}
use Rattle.cb_serial.proofs.vector_products.listed_product.Goals as goal

pub returns : goal.returns
returns g c =
    let s = g.S.Semiring.arithmetic in
    let laws = g.met.S.Semiring.is_semiring in
    let a = c.args.matrix.now in
    let x = c.args.vector.now in
    let items = c.in_ok-sums.sums.items in
    let zeros = c.deref_mut.result.now in
    let new = c.add_product.new.sums in
    let filled : items ≡ replicate c.rows.result c.zero.result = c.in_ok-sums.ensures.items_if_clones_equal (λ y e. e) in
    let zeros_are : zeros ≡ replicate c.rows.result c.zero.result = c.deref_mut.ensures.value ∙ filled in
    let none : All (λ v. v ≡ s.zero) zeros = subst (All (λ v. v ≡ s.zero)) (sym zeros_are) (All-replicate (λ v. v ≡ s.zero) c.rows.result c.zero.result c.zero.ensures) in
    let long : length zeros ≡ c.rows.result = ap length zeros_are ∙ length-replicate c.rows.result c.zero.result in
    let size : length new ≡ c.in_ok-sums.sums.len = c.add_product.ensures.length ∙ c.deref_mut.ensures.len in
    let written : c.deref.result.now ≡ new = c.deref.ensures.value ∙ take_at new (drop (length new) items) c.in_ok-sums.sums.len size in
    let shape : c.with_columns_of-shape.result ≡ product_shape a x = c.with_columns_of-shape.ensures ∙ (λ z. record { rows = (ap (λ (d : Extent). d.rows) c.shape.ensures.shape) z; cols = (ap (λ (d : Extent). d.cols) c.shape-2.ensures.shape) z }) in
    let rows : c.rows.result ≡ a.shape.rows = c.rows.ensures.value ∙ ap (λ (d : Extent). d.rows) shape in
    IfOk-weaker c.column_of_list.result (λ (m : Sparse). m ≡ matrix_of s c.with_columns_of-shape.result (λ i _. get_or c.deref.result.now i s.zero)) (λ (m : Sparse). m ≡ product s a x)
    (λ m is. sums_are s laws a x m c.with_columns_of-shape.result zeros new c.shape.ensures.matrix c.shape-2.ensures.matrix shape c.requires.column none (long ∙ rows) c.add_product.ensures.sums (is ∙ ap (λ xs. matrix_of s c.with_columns_of-shape.result (λ i _. get_or xs i s.zero)) written)) c.column_of_list.ensures
