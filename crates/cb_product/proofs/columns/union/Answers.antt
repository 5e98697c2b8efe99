use Rattle.std.proofs.Common.{◌≡◌, ◌≤◌, ◌++◌, drop, length, get_or, sym, subst, ap, ◌∙◌, arith}
use Rattle.std.proofs.lemmas.List.{take_rest}
use Rattle.cb_product.proofs.Union.{IsUnionSoFar, union_start, union_left, union_right, union_both, union_rest, union_last, union_has_left, union_has_right}
use Rattle.cb_product.proofs.columns.union.Goals as goal

pub loop-x-init : goal.loop-x-init
loop-x-init c = union_start _ _ _ (c.in_ok-reserve.ensures.items ∙ c.new-columns.ensures.items)

pub loop-x-preserved-then-first-second : goal.loop-x-preserved-then-first-second
loop-x-preserved-then-first-second c = rw c.in_ok-push.ensures.items (union_left c.args.left.now c.args.right.now c.requires.left c.requires.right _ _ _ c.loop-x.invariant c.loop-x-test.true (λ l. c.if-first-second.true))

pub loop-x-preserved-then-second-first : goal.loop-x-preserved-then-second-first
loop-x-preserved-then-second-first c = rw c.in_ok-push-2.ensures.items (union_right c.args.left.now c.args.right.now c.requires.left c.requires.right _ _ _ c.loop-x.invariant c.if-y-right.false (λ l. c.if-second-first.true))

pub loop-x-preserved : goal.loop-x-preserved
loop-x-preserved c =
    let not_less = c.if-first-second.false in
    let not_more = c.if-second-first.false in
    let same : get_or c.args.left.now c.loop-x.x 0 ≡ get_or c.args.right.now c.loop-x.y 0 = omega arith in
    rw c.in_ok-push-3.ensures.items (union_both c.args.left.now c.args.right.now c.requires.left c.requires.right _ _ _ c.loop-x.invariant c.loop-x-test.true c.if-y-right.false same)

pub returns-then-y-right : goal.returns-then-y-right
returns-then-y-right c =
    let left = c.args.left.now in
    let right = c.args.right.now in
    let items_are : c.extend_from_slice.new.self.items ≡ c.loop-x.columns.items ++ drop c.loop-x.x left = c.in_ok-extend_from_slice.ensures.items ∙ ap (λ rest. c.loop-x.columns.items ++ rest) (take_rest left c.loop-x.x) in
    let done = subst (λ all. IsUnionSoFar left right all (length left) c.loop-x.y) (sym items_are) (union_rest left right c.requires.left c.requires.right _ c.loop-x.x c.loop-x.y c.loop-x.invariant (λ l. c.if-y-right.true)) in
    record {
      ascending = done.ascending;
      left = union_has_left left right _ _ _ done (let all : length left ≤ length left = omega arith in all);
      right = union_has_right left right _ _ _ done c.if-y-right.true;
      within = done.within;
    }

pub returns : goal.returns
returns c =
    let left = c.args.left.now in
    let right = c.args.right.now in
    let items_are : c.extend_from_slice-2.new.self.items ≡ c.loop-x.columns.items ++ drop c.loop-x.y right = c.in_ok-extend_from_slice-2.ensures.items ∙ ap (λ rest. c.loop-x.columns.items ++ rest) (take_rest right c.loop-x.y) in
    let done = subst (λ all. IsUnionSoFar left right all c.loop-x.x (length right)) (sym items_are) (union_last left right c.requires.left c.requires.right _ c.loop-x.x c.loop-x.y c.loop-x.invariant c.loop-x-test.false) in
    record {
      ascending = done.ascending;
      left = union_has_left left right _ _ _ done c.loop-x-test.false;
      right = union_has_right left right _ _ _ done (let all : length right ≤ length right = omega arith in all);
      within = done.within;
    }
