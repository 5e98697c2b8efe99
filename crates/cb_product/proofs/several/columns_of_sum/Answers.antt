use Rattle.std.proofs.Common.{◌≡◌, ◌+◌, ◌<◌, ◌∷◌, [], ◌++◌, take, ◌∙◌, ap, subst, sym}
use Rattle.std.specs.Prelude.{All, Contains}
use Rattle.std.proofs.lemmas.List.{take_more, map_push}
use Rattle.std.proofs.lemmas.List.Elements.{All-push, All-weaker}
use Rattle.cb_matrix.specs.declared.Entry.{Entry}
use Rattle.cb_matrix.specs.Sparse.{Sparse, Extent}
use Rattle.cb_product.specs.InColumns.{AreInColumns}
use Rattle.cb_product.specs.SeveralProducts.{pair_of, pairs_in, MakeShape}
use Rattle.cb_product.proofs.SeveralProducts.{mapped_has}
use Rattle.cb_product.proofs.several.columns_of_sum.Goals as goal

pub loop-factors-preserved : goal.loop-factors-preserved
loop-factors-preserved g c =
    let ps = c.args.products.now in
    let n = c.loop-factors.factors-index in
    let f = c.factors-item.result in
    let inv = c.loop-factors.invariant in
    let old = c.loop-factors.columns.items in
    let new = c.in_ok-columns-2.columns.items in
    let step = c.in_ok-columns-2.ensures in
    let left = rw c.deref.ensures.value at step.left in
    let within = rw c.deref.ensures.value at step.within in
    let fits = mapped_has (MakeShape c.args.accumulator.now.shape) pair_of ps n f c.loop-factors-test.true c.factors-item.is c.requires in
    let cols = ap (λ (e : Extent). e.cols) fits.shape in
    let inside = subst (λ m. All (λ c. c < m) c.column_numbers-in-loop-factors.result.now) (sym cols) c.column_numbers-in-loop-factors.ensures.inside in
    let keeps = λ (p : Sparse × Sparse) (h : AreInColumns old p.1.entries). All-weaker (λ (e : Entry). Contains old e.column) (λ (e : Entry). Contains new e.column) (λ e k. left e.column k) p.1.entries h in
    let here = All-weaker (λ (e : Entry). Contains c.column_numbers-in-loop-factors.result.now e.column) (λ (e : Entry). Contains new e.column) (λ e k. step.right e.column k) f.right.now.entries c.column_numbers-in-loop-factors.ensures.all in
    let more : pairs_in (take (n + 1) ps) ≡ pairs_in (take n ps) ++ pair_of f ∷ [] = ap pairs_in (take_more ps n f c.loop-factors-test.true) ∙ map_push pair_of (take n ps) _ ∙ ap (λ (x : Sparse × Sparse). pairs_in (take n ps) ++ x ∷ []) (ap pair_of (sym c.factors-item.is)) in
    record {
      ascending = step.ascending;
      within = within c.args.accumulator.now.shape.cols inv.within inside;
      own = All-weaker (λ (e : Entry). Contains old e.column) (λ (e : Entry). Contains new e.column) (λ e k. left e.column k) c.args.accumulator.now.entries inv.own;
      rights = subst (λ xs. All (λ (p : Sparse × Sparse). AreInColumns new p.1.entries) xs) (sym more)
          (All-push (λ (p : Sparse × Sparse). AreInColumns new p.1.entries) (pairs_in (take n ps)) (pair_of f)
          (All-weaker (λ (p : Sparse × Sparse). AreInColumns old p.1.entries) (λ (p : Sparse × Sparse). AreInColumns new p.1.entries) keeps (pairs_in (take n ps)) inv.rights) here);
    }
