use Rattle.std.proofs.Common.{◌≡◌, ℕ, ◌+◌, ◌≤◌, length, vec_len, vec_capacity}
use Rattle.std.specs.Prelude.{slice_get}
use Rattle.cb_rank_crews.specs.Rings.{names_of, AreNewRings}
use Rattle.cb_rank_crews.proofs.hiring.hire.Given as goal

abbrev pub invariant-loop-errands : goal.invariant-loop-errands
invariant-loop-errands g l =
    let rest = l.errands-iterator.rest.items in record {
      new : AreNewRings rest;
      names : (k : ℕ) → g.J.Naming.ring (length l.idle.items + k) ≡ slice_get (names_of rest) k;
      room : vec_len l.idle + length rest ≤ vec_capacity l.idle;
      count : length l.idle.items + length rest ≡ length l.fn.rings;
    }
