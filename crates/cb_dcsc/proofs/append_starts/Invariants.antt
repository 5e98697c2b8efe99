use Rattle.std.proofs.Common.{◌≡◌, ◌+◌, ◌-◌, ◌≤◌, ◌++◌, length, map, take, vec_capacity, vec_len}
use Rattle.cb_dcsc.proofs.append_starts.Given as goal

abbrev pub invariant-loop-end : goal.invariant-loop-end
invariant-loop-end l = record {
  starts : l.starts.items ≡ take (length l.fn.starts.items - l.shared) l.fn.starts.items ++ map (λ e. e + l.len) (take l.end-index l.end-items);
  room : vec_len l.starts + (length l.end-items - l.end-index) ≤ vec_capacity l.starts;
}
