use Rattle.std.proofs.Common.{◌≡◌, ℕ, length, drop, replicate, sym, ap, subst, ◌∙◌}
use Rattle.std.specs.Prelude.{All, List}
use Rattle.std.proofs.lemmas.List.{take_at, length-replicate}
use Rattle.std.proofs.lemmas.List.Elements.{All-replicate}
use Rattle.cb_matrix.specs.Sparse.{Sparse, Extent, IsMatrix, at}
use Rattle.cb_matrix.specs.Values.{product}
use Rattle.cb_product.specs.DenseSums.{AddsToSums}
use Rattle.cb_product.proofs.OnlyColumns.{only_matrix}
use Rattle.cb_shares.specs.Shares.{columns_from, panel}
use Rattle.cb_shares.specs.Sums.{IsListOf}
use Rattle.cb_shares.proofs.SumShares.{product_list}
use Rattle.cb_shares.proofs.sums.product_of.Goals as goal

pub returns : goal.returns
returns g c =
    let s = g.S.Semiring.arithmetic in
    let laws = g.met.S.Semiring.is_semiring in
    let a = c.args.block.now in
    let x = c.args.vector.now in
    let some : Sparse = panel a c.args.first c.args.end in
    let is_some : IsMatrix s some = only_matrix s (columns_from c.args.first c.args.end) a c.shape.ensures.matrix in
    let items = c.in_ok-sums.sums.items in
    let zeros = c.deref_mut.result.now in
    let new = c.add_product_of_columns.new.sums in
    let filled : items ≡ replicate c.rows-2.result c.zero.result = c.in_ok-sums.ensures.items_if_clones_equal (λ y e. e) in
    let zeros_are : zeros ≡ replicate c.rows-2.result c.zero.result = c.deref_mut.ensures.value ∙ filled in
    let none : All (λ v. v ≡ s.zero) zeros = subst (All (λ v. v ≡ s.zero)) (sym zeros_are) (All-replicate (λ v. v ≡ s.zero) c.rows-2.result c.zero.result c.zero.ensures) in
    let long : length zeros ≡ a.shape.rows = ap length zeros_are ∙ length-replicate c.rows-2.result c.zero.result ∙ c.rows-2.ensures.value ∙ ap (λ (d : Extent). d.rows) c.shape-3.ensures.shape in
    let size : length new ≡ c.in_ok-sums.sums.len = c.add_product_of_columns.ensures.length ∙ c.deref_mut.ensures.len in
    let adds : AddsToSums s a.shape.rows (λ i. at s (product s some x) i 0) zeros new =
    subst (λ (m : Sparse). AddsToSums s a.shape.rows (λ i. at s (product s m x) i 0) zeros new) c.places_between-low.ensures.columns c.add_product_of_columns.ensures.sums in
    let list : IsListOf s (product s some x) new = product_list s laws zeros new none c.add_product_of_columns.ensures.length c.add_product_of_columns.ensures.values some x is_some c.shape-2.ensures.matrix c.requires.column long adds in
    subst (λ (xs : List ℕ). IsListOf s (product s some x) xs) (sym (take_at new (drop (length new) items) c.in_ok-sums.sums.len size)) list
