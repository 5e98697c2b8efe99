use Rattle.std.proofs.Common.{◌≡◌, ◌+◌, ◌*◌, ◌≤◌, ◌++◌, take}
use Rattle.std.specs.Prelude.{vec_len, vec_capacity}
use Rattle.cb_market_pages.specs.Text.{lines_in}
use Rattle.cb_market_pages.proofs.text_pages.EntriesLeft.put_first.Given as goal

-- the lines so far and those that are left are all, and the buffer has those so far, and room for the others
abbrev pub invariant-loop-left : goal.invariant-loop-left
invariant-loop-left g l =
    record {
      lines : take l.end l.buffer.items ++ lines_in l.form (take l.left l.self) ≡ take l.start l.initial.buffer.items ++ lines_in l.form (take l.most l.initial.self);
      limit : l.end + l.left * 43 ≤ l.start + l.most * 43;
      begun : l.end ≤ vec_len l.buffer;
      longer : vec_len l.initial.buffer ≤ vec_len l.buffer;
      room : vec_capacity l.initial.buffer ≤ vec_capacity l.buffer;
    }

abbrev pub decreases-loop-left : goal.decreases-loop-left
decreases-loop-left g l = l.left
