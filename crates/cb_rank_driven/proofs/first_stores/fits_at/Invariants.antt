use Rattle.std.proofs.Common.{◌≡◌, ℕ, ◌<◌, length}
use Rattle.cb_plan.specs.Checks.{started}
use Rattle.cb_rank.specs.Halves.{slot_at}
use Rattle.cb_rank_driven.specs.FirstStores.{HoldsShape}
use Rattle.cb_rank_driven.proofs.first_stores.fits_at.Given as goal

-- the slots so far hold their shapes
abbrev pub invariant-loop-n : goal.invariant-loop-n
invariant-loop-n g l = (0 < l.n → length l.fn.store ≡ 256) × ((n : ℕ) → n < l.n → HoldsShape (started l.fn.plan.starts l.fn.me n) (slot_at l.fn.store n))
