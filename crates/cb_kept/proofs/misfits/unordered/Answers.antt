use Rattle.std.proofs.Common.{rules, ◌<◌, ◌≤◌, refl}
use Rattle.cb_lists.specs.Lists.{count}
use Rattle.cb_kept.specs.Misfits.{IsColumnUnordered, IsEntryUnordered}
use Rattle.cb_kept.proofs.FirstMisfits.{at_column, at_entry}
use Rattle.cb_kept.proofs.misfits.unordered.Goals as goal

pub returns-then-column-stored : goal.returns-then-column-stored
returns-then-column-stored c =
    let l : c.first_unordered-column.result < count c.args.lists.now = search rules in
    at_column c.args.lists.now (IsColumnUnordered c.args.lists.now) (IsEntryUnordered c.args.lists.now) c.first_unordered-column.result _ c.first_unordered-column.ensures l refl

pub returns : goal.returns
returns c =
    let l : count c.args.lists.now ≤ c.first_unordered-column.result = search rules in
    at_entry c.args.lists.now (IsColumnUnordered c.args.lists.now) (IsEntryUnordered c.args.lists.now) c.first_unordered-column.result _ c.first_unordered-column.ensures l c.first_unordered_entry.ensures
