use Rattle.std.proofs.Common.{rules, ◌≡◌, ◌<◌, ◌-◌, get_or}
use Rattle.cb_market.proofs.PartedTexts.{whole_end, whole_start}
use Rattle.cb_market.proofs.pieces.parted.Goals.{else-loop-end-test, then-loop-end-test+then-text-end-eq10}
use Rattle.cb_market.proofs.pieces.parted.Goals as goal

pub returns-clause-whole : goal.returns-clause-whole
returns-clause-whole c = elim c.loop-end-test.branch [
  | else-loop-end-test w ↦ let zero : c.loop-end.end ≡ 0 = search rules in whole_start c.args.text.now c.loop-end.end zero
  | then-loop-end-test+then-text-end-eq10 w ↦
      let some : 0 < c.loop-end.end = search rules in
      let feed : get_or c.args.text.now (c.loop-end.end - 1) 0 ≡ 10 = search rules in
      whole_end c.args.text.now c.loop-end.end some c.loop-end.invariant feed
]
