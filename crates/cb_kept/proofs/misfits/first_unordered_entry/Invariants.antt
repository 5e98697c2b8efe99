use Rattle.std.proofs.Common.{ℕ, ◌<◌, ◌-◌, get_or}
use Rattle.cb_lists.specs.Lists.{starts}
use Rattle.cb_kept.specs.Misfits.{IsEntryUnordered}
use Rattle.cb_kept.proofs.misfits.first_unordered_entry.Given as goal

-- the entries of the columns so far are in order
abbrev pub invariant-loop-n : goal.invariant-loop-n
invariant-loop-n l = (k : ℕ) → k < get_or (starts l.lists) l.n 0 → IsEntryUnordered l.lists k → ⊥

-- and the rows of the column so far ascend
abbrev pub invariant-loop-entry : goal.invariant-loop-entry
invariant-loop-entry l = (k : ℕ) → l.first < k → k < l.entry → get_or l.lists.rows.now (k - 1) 0 < get_or l.lists.rows.now k 0
