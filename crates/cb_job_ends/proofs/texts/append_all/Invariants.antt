use Rattle.std.proofs.Common.{◌≡◌, ◌≤◌, ◌+◌, ◌++◌, length, take, drop, vec_len, vec_capacity}
use Rattle.cb_job_ends.specs.Texts.{joined}
use Rattle.cb_job_ends.proofs.texts.append_all.Given as goal

abbrev pub invariant-loop-part : goal.invariant-loop-part
invariant-loop-part l =
    (l.bytes.items ≡ l.fn.bytes.items ++ joined (take l.part-index l.parts)) × (vec_len l.bytes + length (joined (drop l.part-index l.parts)) ≤ vec_capacity l.bytes)
