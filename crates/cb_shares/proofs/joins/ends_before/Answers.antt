use Rattle.std.proofs.Common.{sym}
use Rattle.cb_shares.proofs.ColumnPlaces.{last_before}
use Rattle.cb_shares.proofs.joins.ends_before.Goals as goal

pub returns : goal.returns
returns c = last_before c.args.front.now c.args.back.now _ _ c.requires.front c.requires.back (sym c.in-Some.ensures.value) (sym c.in-Some-first.ensures.value)
