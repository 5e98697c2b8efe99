-- What acts that shut lanes do: they change no slot.
use Rattle.std.proofs.Common.{◌≡◌, ℕ, Bool, true, false, refl}
use Rattle.std.specs.Prelude.{◌==◌}
use Rattle.std.specs.List.{range_with_len}
use Rattle.cb_plan.specs.Meaning.{Algebra, State, meaning}
use Rattle.cb_plan.proofs.Effects.{split, nothing_each}
use Rattle.cb_plan.specs.Closings.{shut_lane, shut_from, shut_acts, closings}

lane_is_nothing : {M : Type 0} (ops : Algebra M) (state : State M) (from to : ℕ) → meaning ops (shut_lane from to) state ≡ state
lane_is_nothing ops state from to = split (from == to) (λ t. rw t refl) (λ t. rw t refl)

-- shutting the lanes from a rank changes no slot
pub sender_is_nothing : {M : Type 0} (ops : Algebra M) (ranks : ℕ) (state : State M) (from : ℕ) → meaning ops (shut_from ranks from) state ≡ state
sender_is_nothing ops ranks state from = nothing_each ops (shut_lane from) state (lane_is_nothing ops state from) (range_with_len 0 ranks)

-- shutting all lanes changes no slot
pub shut_nothing : {M : Type 0} (ops : Algebra M) (ranks : ℕ) (state : State M) → meaning ops (shut_acts ranks) state ≡ state
shut_nothing ops ranks state = nothing_each ops (shut_from ranks) state (sender_is_nothing ops ranks state) (range_with_len 0 ranks)

-- nor does the end of a plan, whether or not it closes
pub closings_do_nothing : {M : Type 0} (ops : Algebra M) (ranks : ℕ) (closes : Bool) (state : State M) → meaning ops (closings ranks closes) state ≡ state
closings_do_nothing ops ranks true state = shut_nothing ops ranks state
closings_do_nothing ops ranks false state = refl
