use Rattle.std.proofs.Common.{◌≡◌, ◌+◌, ◌-◌, ◌≤◌, ◌++◌, length, take, vec_capacity, vec_len}
use Rattle.cb_layout.specs.Segments.{shifted}
use Rattle.cb_layout.proofs.glue.append_segment.Given as goal

-- the entries so far, and room for the others
abbrev pub invariant-loop-n : goal.invariant-loop-n
invariant-loop-n l =
    let s = l.fn.segment in record {
      entries : l.entries.items ≡ l.fn.entries.items ++ shifted s.top s.column (take l.n s.rows.now) (take l.n s.values.now);
      room : vec_len l.entries + (length s.rows.now - l.n) ≤ vec_capacity l.entries;
    }
