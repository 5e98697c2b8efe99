use Rattle.std.proofs.Common.{refl}
use Rattle.cb_masked.proofs.AscendingPlaces.{none_noted, noted_all}
use Rattle.cb_masked.proofs.places.note.Goals as goal

pub loop-n-init : goal.loop-n-init
loop-n-init c = record { so_far = none_noted c.args.slots.now c.args.numbers.now c.requires.cleared; long = refl }

pub returns-clause-noted : goal.returns-clause-noted
returns-clause-noted c = noted_all c.loop-n.slots c.args.numbers.now c.loop-n.n c.requires.few c.loop-n-test.false c.loop-n.invariant.so_far
