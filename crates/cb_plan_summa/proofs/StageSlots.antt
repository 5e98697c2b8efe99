-- The slots that the blocks of stages arrive in.
use Rattle.std.proofs.Common.{◌≡◌, ◌≢◌, ℕ, ◌<◌, ◌≤◌, true, arith}
use Rattle.std.specs.Prelude.{nat_lt}
use Rattle.std.proofs.lemmas.Bool.Decides.{nat_tests}
use Rattle.cb_grid.specs.declared.TheConstants.{LARGEST_SIDE}
use Rattle.cb_plan.specs.declared.stores.TheConstants.{SLOTS}
use Rattle.cb_plan.proofs.Effects.{split}
use Rattle.cb_plan_summa.specs.Summa.{left_slot, right_slot}

-- they come after those of the operands and of the result
pub after_result : (k : ℕ) → 3 ≤ left_slot k
after_result k = split (nat_lt k 2) (λ t. rw t (omega arith)) (λ f. rw f (omega arith))

-- none is the mask's
pub not_mask : (k : ℕ) → (left_slot k ≢ 7) × (right_slot k ≢ 7)
not_mask k =
    split (nat_lt k 2)
    (λ t. let l : k < 2 = grind (arith, nat_tests) in rw t (omega arith, omega arith))
    (λ f. let l : 2 ≤ k = grind (arith, nat_tests) in rw f (omega arith, omega arith))

-- each stage has its own, after those of the stages before
pub after_earlier : (m k : ℕ) → m < k → right_slot m < left_slot k
after_earlier m k l =
    split (nat_lt k 2)
    (λ t. let u : nat_lt m 2 ≡ true = grind (arith, nat_tests) in rw (t, u) (omega arith))
    (λ f. split (nat_lt m 2) (λ t. let n : 2 ≤ k = grind (arith, nat_tests) in rw (f, t) (omega arith)) (λ g. rw (f, g) (omega arith)))

-- on the largest grid too they exist
pub slots_exist : (k : ℕ) → k < LARGEST_SIDE → right_slot k < SLOTS
slots_exist k l = split (nat_lt k 2) (λ t. rw t (omega arith)) (λ f. rw f (omega arith))
