use Rattle.std.proofs.Common.{rules, arith, refl}
use Rattle.cb_product.proofs.HeapStep.{gives_on, gives_last, least_on, least_last, least_row, head_taken}
use Rattle.cb_product.proofs.heads.next.Goals as goal

pub returns-then-at-head-clause-gives : goal.returns-then-at-head-clause-gives
returns-then-at-head-clause-gives g c =
    let s = g.S.Semiring.arithmetic in
    let laws = g.met.S.Semiring.is_semiring in
    let h = c.deref-head.result.now in
    let taken = rw (← c.deref-head.ensures) at c.in-Some.ensures.permutation in
    let put = c.drop-top.ensures.permutation (search rules) in
    let t = gives_on s laws c.args.rows.now c.args.values.now c.requires.lengths c.requires.values _ _ _ h _ refl c.requires.heads taken c.if-at-head.true _ refl put in
    rw c.mul-value.ensures (search rules)

pub returns-then-at-head-clause-least : goal.returns-then-at-head-clause-least
returns-then-at-head-clause-least g c =
    let s = g.S.Semiring.arithmetic in
    let laws = g.met.S.Semiring.is_semiring in
    let h = c.deref-head.result.now in
    let taken = rw (← c.deref-head.ensures) at c.in-Some.ensures.permutation in
    let greatest = rw (← c.deref-head.ensures) at (c.in-Some.ensures.greatest c.requires.order) in
    let put = c.drop-top.ensures.permutation (search rules) in
    let t = least_on s laws c.args.rows.now c.args.values.now c.requires.lengths c.requires.values _ _ _ h _ refl c.requires.heads taken c.if-at-head.true _ refl put (least_row h _ greatest) in
    search rules

pub returns-else-at-head-clause-gives : goal.returns-else-at-head-clause-gives
returns-else-at-head-clause-gives g c =
    let s = g.S.Semiring.arithmetic in
    let laws = g.met.S.Semiring.is_semiring in
    let h = c.deref-head.result.now in
    let taken = rw (← c.deref-head.ensures) at c.in-Some.ensures.permutation in
    let t = gives_last s laws c.args.rows.now c.args.values.now c.requires.lengths c.requires.values _ _ _ h _ refl c.requires.heads taken c.if-at-head.false c.pop.ensures.permutation in
    rw c.mul-value.ensures (search rules)

pub returns-else-at-head-clause-least : goal.returns-else-at-head-clause-least
returns-else-at-head-clause-least g c =
    let s = g.S.Semiring.arithmetic in
    let laws = g.met.S.Semiring.is_semiring in
    let h = c.deref-head.result.now in
    let taken = rw (← c.deref-head.ensures) at c.in-Some.ensures.permutation in
    let greatest = rw (← c.deref-head.ensures) at (c.in-Some.ensures.greatest c.requires.order) in
    let t = least_last s laws c.args.rows.now c.args.values.now c.requires.lengths c.requires.values _ _ _ h _ refl c.requires.heads taken c.if-at-head.false c.pop.ensures.permutation (least_row h _ greatest) in
    search rules

pub bounds-values-head : goal.bounds-values-head
bounds-values-head g c =
    let is = head_taken g.S.Semiring.arithmetic c.args.rows.now _ _ c.deref-head.result.now c.requires.heads (rw (← c.deref-head.ensures) at c.in-Some.ensures.permutation) in
    let some = is.some in
    let within = is.within in
    let lengths = c.requires.lengths in
    omega arith

pub mul-value-requires-clause-left_is_value : goal.mul-value-requires-clause-left_is_value
mul-value-requires-clause-left_is_value g c =
    let is = head_taken g.S.Semiring.arithmetic c.args.rows.now _ _ c.deref-head.result.now c.requires.heads (rw (← c.deref-head.ensures) at c.in-Some.ensures.permutation) in
    let some = is.some in
    let within = is.within in
    let lengths = c.requires.lengths in
    c.requires.values c.deref-head.result.now.at 0 (omega arith)

pub mul-value-requires-clause-right_is_value : goal.mul-value-requires-clause-right_is_value
mul-value-requires-clause-right_is_value g c =
    let is = head_taken g.S.Semiring.arithmetic c.args.rows.now _ _ c.deref-head.result.now c.requires.heads (rw (← c.deref-head.ensures) at c.in-Some.ensures.permutation) in
    is.scale

pub bounds-rows-at : goal.bounds-rows-at
bounds-rows-at g c =
    let is = head_taken g.S.Semiring.arithmetic c.args.rows.now _ _ c.deref-head.result.now c.requires.heads (rw (← c.deref-head.ensures) at c.in-Some.ensures.permutation) in
    let within = is.within in
    let more = c.if-at-head.true in
    omega arith
