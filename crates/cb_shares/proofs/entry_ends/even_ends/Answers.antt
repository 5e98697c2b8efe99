use Rattle.std.proofs.Common.{◌≡◌, ◌++◌, ◌∷◌, [], ◌≤◌, arith}
use Rattle.std.proofs.lemmas.List.{length_push}
use Rattle.cb_shares.proofs.LaterEnds.{ends_more, ends_before, ends_all}
use Rattle.cb_shares.proofs.entry_ends.even_ends.Goals as goal

pub loop-end-preserved : goal.loop-end-preserved
loop-end-preserved c =
    let l = c.loop-end in
    let end = c.min-end.result in
    let within = l.invariant.within in
    let sum = c.saturating_add.ensures in
    let least = c.min-end.ensures in
    let rises : l.end ≤ end = omega arith in
    let new : c.push.new.self.items ≡ l.ends.items ++ end ∷ [] = c.in_ok-push.ensures.items in
    let long = length_push l.ends.items end in
    let k = l.invariant.count in
    record {
      count = rw new (omega arith);
      ascending = rw new (ends_more l.ends.items l.end end rises l.invariant.before l.invariant.ascending);
      before = rw new (ends_before l.ends.items l.end end rises l.invariant.before);
      within = omega arith;
    }

pub returns : goal.returns
returns c =
    let l = c.loop-end in
    let k = l.invariant.count in
    let n = c.loop-end-test.false in
    let some = c.if-count-eq0.false in
    rw c.in_ok-push-2.ensures.items (ends_all l.ends.items l.end c.args.cols c.args.count (omega arith) l.invariant.within l.invariant.before l.invariant.ascending)
