use Rattle.std.proofs.Common.{refl, arith}
use Rattle.cb_masked.proofs.AscendingPlaces.{cleared_all}
use Rattle.cb_masked.proofs.places.clear.Goals as goal

pub loop-n-init : goal.loop-n-init
loop-n-init c = record { so_far = λ k lk none. c.requires.others k lk (λ n l. none n (omega arith) l); long = refl }

pub returns-clause-cleared : goal.returns-clause-cleared
returns-clause-cleared c = cleared_all c.loop-n.slots c.args.numbers.now c.loop-n.n c.loop-n-test.false c.loop-n.invariant.so_far
