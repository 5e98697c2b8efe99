use Rattle.std.proofs.Common.{◌≡◌, ◌<◌, ◌≤◌, ℕ, ◌∙◌, List, ap, subst, arith}
use Rattle.std.specs.Prelude.{slice_index_or}
use Rattle.std.proofs.lemmas.Result.{IfOk-weaker}
use Rattle.cb_semirings.specs.Tables.{min_plus}
use Rattle.cb_matrix.specs.Sparse.{Sparse, at}
use Rattle.cb_matrix.specs.Values.{product}
use Rattle.cb_searches.specs.Walks.{infinite}
use Rattle.cb_searches.specs.Numbers.{fallen}
use Rattle.cb_searches.proofs.FallenNumbers.{RelaxesTo, made, relaxed_least, relaxed_new, relaxed_old}
use Rattle.cb_searches.proofs.relaxations.relax_list.Goals as goal

pub add_product-requires-clause-values : goal.add_product-requires-clause-values
add_product-requires-clause-values c k d l = let h = c.requires.values k d l in omega arith

pub returns-clause-values : goal.returns-clause-values
returns-clause-values c k d l = let h = c.add_product.ensures.values k d l in omega arith

pub returns-clause-least : goal.returns-clause-least
returns-clause-least c =
    let column_is : c.in_ok-column.column ≡ c.args.fell.now = c.in_ok-column.ensures ∙ (λ t. record { shape = c.shape-3.ensures.shape t; entries = c.entries.ensures t }) in
    let sums : RelaxesTo c.args.edges.now c.args.list.now c.add_product.new.sums c.args.fell.now = subst (RelaxesTo c.args.edges.now c.args.list.now c.add_product.new.sums) column_is c.add_product.ensures.sums in
    made c.fallen_column.result (relaxed_least c.args.edges.now c.args.fell.now c.args.list.now c.add_product.new.sums c.requires.length c.add_product.ensures.length sums)

pub returns-clause-new : goal.returns-clause-new
returns-clause-new c =
    let column_is : c.in_ok-column.column ≡ c.args.fell.now = c.in_ok-column.ensures ∙ (λ t. record { shape = c.shape-3.ensures.shape t; entries = c.entries.ensures t }) in
    let sums : RelaxesTo c.args.edges.now c.args.list.now c.add_product.new.sums c.args.fell.now = subst (RelaxesTo c.args.edges.now c.args.list.now c.add_product.new.sums) column_is c.add_product.ensures.sums in
    let before : c.deref.result.now ≡ c.args.list.now = c.deref.ensures.value ∙ c.in_ok-before.ensures.items in
    IfOk-weaker c.fallen_column.result (λ (m : Sparse). (v : ℕ) → at min_plus m v 0 ≡ fallen c.deref.result.now c.add_product.new.sums v)
    (λ (m : Sparse). (v : ℕ) → at min_plus (product min_plus c.args.edges.now c.args.fell.now) v 0 < slice_index_or c.args.list.now v infinite → at min_plus m v 0 ≡ at min_plus (product min_plus c.args.edges.now c.args.fell.now) v 0)
    (λ m h v l. h v ∙ ap (λ (xs : List ℕ). fallen xs c.add_product.new.sums v) before ∙ relaxed_new c.args.edges.now c.args.fell.now c.args.list.now c.add_product.new.sums c.requires.length c.add_product.ensures.length sums v l)
    c.fallen_column.ensures.values

pub returns-clause-old : goal.returns-clause-old
returns-clause-old c =
    let column_is : c.in_ok-column.column ≡ c.args.fell.now = c.in_ok-column.ensures ∙ (λ t. record { shape = c.shape-3.ensures.shape t; entries = c.entries.ensures t }) in
    let sums : RelaxesTo c.args.edges.now c.args.list.now c.add_product.new.sums c.args.fell.now = subst (RelaxesTo c.args.edges.now c.args.list.now c.add_product.new.sums) column_is c.add_product.ensures.sums in
    let before : c.deref.result.now ≡ c.args.list.now = c.deref.ensures.value ∙ c.in_ok-before.ensures.items in
    IfOk-weaker c.fallen_column.result (λ (m : Sparse). (v : ℕ) → at min_plus m v 0 ≡ fallen c.deref.result.now c.add_product.new.sums v)
    (λ (m : Sparse). (v : ℕ) → slice_index_or c.args.list.now v infinite ≤ at min_plus (product min_plus c.args.edges.now c.args.fell.now) v 0 → at min_plus m v 0 ≡ infinite)
    (λ m h v l. h v ∙ ap (λ (xs : List ℕ). fallen xs c.add_product.new.sums v) before ∙ relaxed_old c.args.edges.now c.args.fell.now c.args.list.now c.add_product.new.sums c.requires.length c.add_product.ensures.length sums v l)
    c.fallen_column.ensures.values
