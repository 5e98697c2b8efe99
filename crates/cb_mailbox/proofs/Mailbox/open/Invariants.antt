use Rattle.std.proofs.Common.{◌≡◌, ℕ, ◌<◌, ◌==◌, if◌then◌else◌, length, slice_index_or}
use Rattle.cb_letters.specs.Lane.{new_lane}
use Rattle.cb_mailbox.proofs.Mailbox.open.Given as goal

abbrev pub invariant-loop-from : goal.invariant-loop-from
invariant-loop-from g l =
    record {
      count : length l.lanes.items ≡ l.from;
      new : (k : ℕ) → k < l.from → slice_index_or l.lanes.items k (new_lane 0) ≡ new_lane (if k == l.me then 0 else l.capacity);
    }
