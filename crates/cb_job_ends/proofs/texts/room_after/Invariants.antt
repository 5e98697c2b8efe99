use Rattle.std.proofs.Common.{◌≡◌, ◌+◌, length, take}
use Rattle.cb_job_ends.specs.Texts.{joined}
use Rattle.cb_job_ends.proofs.texts.room_after.Given as goal

abbrev pub invariant-loop-part : goal.invariant-loop-part
invariant-loop-part l = l.left + length (joined (take l.part-index l.parts)) ≡ l.room
