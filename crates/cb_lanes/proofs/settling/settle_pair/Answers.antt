use Rattle.std.proofs.Common.{◌<◌, length, arith, slice_index_or}
use Rattle.std.proofs.lemmas.List.{get_or_default}
use Rattle.cb_lanes.proofs.Pairs.{pair_linked, pair_same, pair_settled}
use Rattle.cb_lanes.proofs.settling.settle_pair.Goals as goal

pub settle_with-requires : goal.settle_with-requires
settle_with-requires g c =
    let cut = c.split_at_mut-front.ensures in
    pair_linked c.split_at_mut-front.result.0.now c.split_at_mut-front.result.1.now c.args.low c.index-front-low.result c.index-back-0.result (rw cut.value at c.requires.desks) (omega arith) (omega arith)

pub returns-clause-same : goal.returns-clause-same
returns-clause-same g c =
    let cut = c.split_at_mut-front.ensures in
    let front = c.split_at_mut-front.result.0.now in
    let back = c.split_at_mut-front.result.1.now in
    let order : c.args.low < length front = omega arith in
    let some : 0 < length back = omega arith in
    rw cut.value (pair_same front back c.args.low c.settle_with.new.self c.settle_with.new.other order some
    (λ a. rw (get_or_default front c.args.low a c.index-front-low.result order) c.settle_with.ensures.sender)
    (λ b. rw (get_or_default back 0 b c.index-back-0.result some) c.settle_with.ensures.other))

pub returns-clause-settled : goal.returns-clause-settled
returns-clause-settled g c =
    let cut = c.split_at_mut-front.ensures in
    let front = c.split_at_mut-front.result.0.now in
    let back = c.split_at_mut-front.result.1.now in
    let order : c.args.low < length front = omega arith in
    let some : 0 < length back = omega arith in
    let X = slice_index_or front c.args.low c.index-front-low.result in
    let Y = slice_index_or back 0 c.index-back-0.result in
    rw (cut.value, ← cut.front_len)
    (pair_settled front back c.args.low X Y (rw cut.value at c.requires.desks) order some
    (get_or_default front c.args.low c.index-front-low.result X order) (get_or_default back 0 c.index-back-0.result Y some)
    c.settle_with.ensures.there c.settle_with.ensures.back)
