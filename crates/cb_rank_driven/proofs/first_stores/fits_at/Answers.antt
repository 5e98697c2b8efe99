use Rattle.std.proofs.Common.{◌<◌, refl, arith}
use Rattle.cb_rank_driven.proofs.FirstSlots.{all_fit}
use Rattle.cb_rank_driven.proofs.first_stores.fits_at.Goals as goal

pub returns : goal.returns
returns g c =
    let end = c.loop-n-test.false in
    let some : 0 < c.loop-n.n = omega arith in
    (λ _. all_fit c.args.plan.now c.args.me c.args.store.now c.starts-starts.ensures.checked (c.loop-n.invariant.0 some) (λ n l. c.loop-n.invariant.1 n (omega arith)), λ _. refl)
