use Rattle.std.proofs.Common.{arith}
use Rattle.cb_masked.proofs.AscendingPlaces.{few_below}
use Rattle.cb_masked.proofs.places.noted.Goals as goal

pub note-requires-clause-few : goal.note-requires-clause-few
note-requires-clause-few c =
    let few = few_below c.args.numbers.now c.args.bound c.requires.ascending c.requires.below in
    let fits = c.ranges.bound.fits in
    omega arith
