use Rattle.std.proofs.Common.{◌≡◌, ◌<◌, get_or, arith}
use Rattle.cb_dcsc.proofs.Held.{same_number}
use Rattle.cb_selections.proofs.RegionRanges.{missed}
use Rattle.cb_selections.proofs.regions.split.Goals as goal

pub returns-in-Ok-binary_search-clause-above : goal.returns-in-Ok-binary_search-clause-above
returns-in-Ok-binary_search-clause-above c = λ k l.
    let rows = c.args.rows.now in
    let n = c.in-Ok-binary_search.n in
    let here : get_or rows n 0 ≡ c.in-Ok.row = same_number _ _ (c.in-Ok-binary_search.ensures.ok 0) in
    let less : get_or rows k 0 < get_or rows n 0 = c.requires k n 0 l c.in-Ok-binary_search.ensures.bound in
    let r = c.distances-right.ensures.right in
    let d = c.distances-right.ensures.down in
    let t = c.if-right-down.false in
    let row = c.in-Ok.ensures in
    omega arith

pub returns-in-Ok-binary_search-clause-below : goal.returns-in-Ok-binary_search-clause-below
returns-in-Ok-binary_search-clause-below c = λ k l m.
    let rows = c.args.rows.now in
    let n = c.in-Ok-binary_search.n in
    let here : get_or rows n 0 ≡ c.in-Ok.row = same_number _ _ (c.in-Ok-binary_search.ensures.ok 0) in
    let next : n < k = omega arith in
    let more : get_or rows n 0 < get_or rows k 0 = c.requires n k 0 next m in
    let r = c.distances-right.ensures.right in
    let d = c.distances-right.ensures.down in
    let t = c.if-right-down.false in
    let row = c.in-Ok.ensures in
    omega arith

pub returns-in-Err-clause-above : goal.returns-in-Err-clause-above
returns-in-Err-clause-above c = λ k l.
    let less = (missed c.args.rows.now c.in-Ok.row c.in-Err.n c.requires c.in-Err.ensures.position).0 k l in
    let r = c.distances-right.ensures.right in
    let d = c.distances-right.ensures.down in
    let t = c.if-right-down.false in
    let row = c.in-Ok.ensures in
    omega arith

pub returns-in-Err-clause-below : goal.returns-in-Err-clause-below
returns-in-Err-clause-below c = λ k l m.
    let more = (missed c.args.rows.now c.in-Ok.row c.in-Err.n c.requires c.in-Err.ensures.position).1 k l m in
    let r = c.distances-right.ensures.right in
    let d = c.distances-right.ensures.down in
    let t = c.if-right-down.false in
    let row = c.in-Ok.ensures in
    omega arith
