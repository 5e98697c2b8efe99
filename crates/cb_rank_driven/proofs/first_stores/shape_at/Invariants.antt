use Rattle.std.proofs.Common.{◌≡◌, take}
use Rattle.cb_plan.specs.Checks.{started}
use Rattle.cb_rank_driven.proofs.first_stores.shape_at.Given as goal

-- the shape by the starts so far
abbrev pub invariant-loop-start : goal.invariant-loop-start
invariant-loop-start l = l.found ≡ started (take l.start-index l.starts) l.fn.rank l.fn.slot
