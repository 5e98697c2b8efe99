use Rattle.std.proofs.Common.{◌≡◌, length}
use Rattle.cb_masked.proofs.AscendingPlaces.{AreClearedSoFar}
use Rattle.cb_masked.proofs.places.clear.Given as goal

abbrev pub invariant-loop-n : goal.invariant-loop-n
invariant-loop-n l =
    record {
      so_far : AreClearedSoFar l.slots l.numbers l.n;
      long : length l.slots ≡ length l.fn.slots;
    }
