use Rattle.std.proofs.Common.{◌≡◌, ◌<◌, List, length, length-take, take, min, get_or, sym, subst, ◌∙◌, arith}
use Rattle.std.specs.Prelude.{All}
use Rattle.std.proofs.lemmas.List.{get_or-take, get_or_default}
use Rattle.cb_matrix.specs.declared.Entry.{Entry}
use Rattle.cb_matrix.specs.Sparse.{IsBefore}
use Rattle.cb_layout.specs.Distributed.{Distributed}
use Rattle.cb_plan_tests.proofs.layout.pushed.Goals as goal

pub push-requires-clause-order : goal.push-requires-clause-order
push-requires-clause-order c =
    let k = c.loop-entry.entry-index in
    let all = c.args.whole.now.entries in
    let x : Entry = record { row = 0; column = 0; value = 0 } in
    let within : k < length all = rw c.entries-entry-items.ensures at c.loop-entry-test.true in
    let before : All (λ d. IsBefore d (get_or all k x)) (take k all) =
    λ i d m.
    let long : length (take k all) ≡ min k (length all) = length-take k all in
    let n : i < k = omega arith in
    let same : get_or (take k all) i d ≡ get_or all i x = get_or-take k all i d n ∙ get_or_default all i d x (omega arith) in
    subst (λ y. IsBefore y (get_or all k x)) (sym same) (c.shape-shape.ensures.matrix.ascending i k x n within) in
    let so_far = subst (λ (m : Distributed). All (λ d. IsBefore d (get_or all k x)) m.matrix.entries) (sym c.loop-entry.invariant) before in
    subst (λ (es : List Entry). All (λ d. IsBefore d (get_or es k x)) c.loop-entry.spread.matrix.entries) (sym c.entries-entry-items.ensures) so_far
