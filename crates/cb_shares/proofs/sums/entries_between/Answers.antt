use Rattle.cb_shares.proofs.EntryRanges.{range_entries}
use Rattle.cb_shares.proofs.sums.entries_between.Goals as goal

pub returns-clause-entries : goal.returns-clause-entries
returns-clause-entries g c =
    let low = c.entries_of-from.ensures in
    let high = c.entries_of.ensures in
    range_entries c.args.block.now c.args.first c.args.end c.entries_of-from.result c.entries_of.result c.max-to.result low.within high.within c.max-to.ensures low.before low.after high.before high.after
