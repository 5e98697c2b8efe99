-- The events of a rank's program.
use Rattle.std.specs.Prelude.{ℕ, ◌+◌, ◌==◌, if◌then◌else◌, List, [], ◌∷◌, length}
use Rattle.cb_matrix.specs.Sparse.{Sparse}
use Rattle.cb_letters.specs.declared.Letter.{Letter}
use Rattle.cb_letters.specs.Letters.{mark_tag}
use Rattle.cb_plan.specs.declared.acts.Half.{Half}
use Rattle.cb_plan.specs.declared.acts.Half.TheVariants as half_is
use Rattle.cb_trace.specs.declared.events.TraceEvent.{TraceEvent}
use Rattle.cb_trace.specs.declared.events.TraceEvent.TheVariants.{Posted, Took, Closed, Ended}

-- the number of letters in the list for each rank
abbrev pub lengths : (ℕ → List (Letter Sparse)) → ℕ → ℕ
lengths lists k = length (lists k)

-- the count for rank k is one higher
abbrev pub one_more : (ℕ → ℕ) → ℕ → ℕ → ℕ
one_more counts k j = if k == j then counts j + 1 else counts j

-- the events of these halves of rank `me`, in order, after this many letters were posted to each rank and this many taken from
-- each. A letter's number is the count before it, a close mark has tag 0, and work has no event
abbrev pub events_after : ℕ → (ℕ → ℕ) → (ℕ → ℕ) → List Half → List TraceEvent
events_after me posted taken [] = []
events_after me posted taken (half_is.Post to tag slot ∷ halves) =
    Posted (record { from = me; to = to; number = posted to; tag = tag }) ∷ events_after me (one_more posted to) taken halves
events_after me posted taken (half_is.Take from tag into shape ∷ halves) =
    Took (record { from = from; to = me; number = taken from; tag = tag }) ∷ events_after me posted (one_more taken from) halves
events_after me posted taken (half_is.Work op ∷ halves) = events_after me posted taken halves
events_after me posted taken (half_is.Shut to ∷ halves) =
    Closed (record { from = me; to = to; number = posted to; tag = mark_tag }) ∷ events_after me (one_more posted to) taken halves
events_after me posted taken (half_is.End from ∷ halves) =
    Ended (record { from = from; to = me; number = taken from; tag = mark_tag }) ∷ events_after me posted (one_more taken from) halves

-- the events of a whole program
abbrev pub program_events : ℕ → List Half → List TraceEvent
program_events me halves = events_after me (λ _. 0) (λ _. 0) halves
