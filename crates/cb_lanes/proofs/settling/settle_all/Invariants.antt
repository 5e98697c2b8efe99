use Rattle.std.proofs.Common.{ℕ, ◌<◌}
use Rattle.cb_lanes.specs.Desks.{SameDesks, IsPairSettled}
use Rattle.cb_lanes.proofs.settling.settle_all.Given as goal

abbrev pub invariant-loop-high : goal.invariant-loop-high
invariant-loop-high g l =
    record {
      same : SameDesks l.fn.desks l.desks;
      done : (i j : ℕ) → i < j → j < l.high → IsPairSettled l.fn.desks i j;
    }

abbrev pub invariant-loop-low : goal.invariant-loop-low
invariant-loop-low g l =
    record {
      same : SameDesks l.fn.desks l.desks;
      done : (i j : ℕ) → i < j → j < l.high → IsPairSettled l.fn.desks i j;
      more : (i : ℕ) → i < l.low → IsPairSettled l.fn.desks i l.high;
    }
