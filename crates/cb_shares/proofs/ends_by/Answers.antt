use Rattle.std.proofs.Common.{◌≡◌, ◌++◌, ◌∷◌, [], ◌∙◌, ap, get_or, arith}
use Rattle.std.proofs.lemmas.List.{length_push}
use Rattle.cb_shares.proofs.Ends.{all_more, ascends_more, all_ends}
use Rattle.cb_shares.proofs.ends_by.Goals as goal

pub loop-n-preserved : goal.loop-n-preserved
loop-n-preserved c =
    let l = c.loop-n in
    let xs = c.args.columns.now in
    let cols = c.args.cols in
    let q = c.place_after-place.result in
    let new : c.push.new.self.items ≡ l.ends.items ++ get_or xs q cols ∷ [] = c.in_ok-push.ensures.items ∙ ap (λ e. l.ends.items ++ e ∷ []) c.column_at.ensures in
    let long = length_push l.ends.items (get_or xs q cols) in
    let k = l.invariant.count in
    record {
      count = rw new (omega arith);
      ascending = rw new (ascends_more xs cols c.requires.ascending c.requires.within l.ends.items l.place l.invariant.before q c.place_after-place.ensures l.invariant.ascending);
      before = rw new (all_more xs cols c.requires.ascending c.requires.within l.ends.items l.place l.invariant.before q c.place_after-place.ensures);
    }

pub returns : goal.returns
returns c =
    let l = c.loop-n in
    let k = l.invariant.count in
    let n = c.loop-n-test.false in
    let far = l.auto.n-end in
    let near = l.auto.n in
    let some = c.if-count-eq0.false in
    rw c.in_ok-push-2.ensures.items (all_ends c.args.columns.now c.args.cols c.requires.ascending c.requires.within l.ends.items l.place l.invariant.before c.args.count (omega arith) l.invariant.ascending)
