use Rattle.std.proofs.Common.{◌≡◌, length}
use Rattle.cb_masked.proofs.AscendingPlaces.{AreNotedSoFar}
use Rattle.cb_masked.proofs.places.note.Given as goal

abbrev pub invariant-loop-n : goal.invariant-loop-n
invariant-loop-n l =
    record {
      so_far : AreNotedSoFar l.slots l.numbers l.n;
      long : length l.slots ≡ length l.fn.slots;
    }
