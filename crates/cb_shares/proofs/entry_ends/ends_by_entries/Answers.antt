use Rattle.std.proofs.Common.{◌≡◌, ◌++◌, ◌∷◌, [], arith}
use Rattle.std.proofs.lemmas.List.{length_push}
use Rattle.cb_shares.proofs.LaterEnds.{ends_more, ends_before, ends_all}
use Rattle.cb_shares.proofs.entry_ends.ends_by_entries.Goals as goal

pub loop-n-preserved : goal.loop-n-preserved
loop-n-preserved g c =
    let l = c.loop-n in
    let end = c.column_after-end.result in
    let rises = c.column_after-end.ensures in
    let new : c.push.new.self.items ≡ l.ends.items ++ end ∷ [] = c.in_ok-push.ensures.items in
    let long = length_push l.ends.items end in
    let k = l.invariant.count in
    record {
      count = rw new (omega arith);
      ascending = rw new (ends_more l.ends.items l.end end rises.from l.invariant.before l.invariant.ascending);
      before = rw new (ends_before l.ends.items l.end end rises.from l.invariant.before);
      within = rises.cols;
    }

pub returns : goal.returns
returns g c =
    let l = c.loop-n in
    let k = l.invariant.count in
    let n = c.loop-n-test.false in
    let far = l.auto.n-end in
    let near = l.auto.n in
    let some = c.if-count-eq0.false in
    rw c.in_ok-push-2.ensures.items (ends_all l.ends.items l.end c.args.cols c.args.count (omega arith) l.invariant.within l.invariant.before l.invariant.ascending)
