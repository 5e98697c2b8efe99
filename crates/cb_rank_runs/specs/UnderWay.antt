-- A rank that has done a part of its program, and its desk.
use Rattle.std.specs.Prelude.{◌≡◌, ℕ, [], ◌∷◌, length, Some, IfSome}
use Rattle.std.specs.List.{FoldsTo}
use Rattle.cb_semirings.specs.Arithmetic.{Arithmetic}
use Rattle.cb_matrix.specs.Sparse.{Sparse}
use Rattle.cb_letters.specs.Posted.{ends_closed}
use Rattle.cb_plan.specs.declared.acts.Half.{Half}
use Rattle.cb_plan.specs.Checks.{lanes_after, none_shut}
use Rattle.cb_plan.specs.PlanLetters.{before}
use Rattle.cb_lanes.specs.declared.desk.Desk.{Desk}
use Rattle.cb_lanes.specs.Desks.{identity, capacity_to, posted_to, taken_from}
use Rattle.cb_rings.specs.Numbers.{AreNumbered}
use Rattle.cb_rank.specs.declared.wants.Arrival.{Arrival}
use Rattle.cb_rank.specs.declared.wants.Arrival.TheVariants as arrival_is
use Rattle.cb_trace.specs.declared.events.Envelope.{Envelope}
use Rattle.cb_trace.specs.declared.events.TraceEvent.{TraceEvent}
use Rattle.cb_trace.specs.declared.events.TraceEvent.TheVariants.{Took, Ended}
use Rattle.cb_rank.specs.Halves.{DoesHalf}
use Rattle.cb_rank.specs.Ranks.{RankView, next_half, onward}
use Rattle.cb_rank_runs.specs.Runs.{course_of}
use Rattle.cb_rank_runs.specs.ProgramEvents.{events_after, lengths}

-- the desk is the rank's own among the ranks of its plan. The lanes to the rank whose close marks were taken are exactly those
-- that the acts before the rank's next half shut
pub record IsUnderWay (x : RankView) (d : Desk Sparse) : Type 0 where
  pub me : d.me ≡ x.me
  pub ranks : length d.outgoing.items ≡ x.plan.ranks
  pub numbered : (k : ℕ) → AreNumbered (taken_from d k)
  pub ends : (k : ℕ) → ends_closed (taken_from d k) ≡ lanes_after (before x.plan.acts x.me x.done) none_shut k x.me

-- the rank has done its next half over its desk, and nothing else, from x and d to y and e
pub record DoesNext (s : Arithmetic) (x : RankView) (d : Desk Sparse) (y : RankView) (e : Desk Sparse) : Type 0 where
  pub half : Half
  pub next : next_half x ≡ Some half
  pub does : DoesHalf s x.me half (course_of x d) (course_of y e)
  pub one_more : y ≡ onward x y.slots y.refusals
  pub rings : identity e ≡ identity d
  pub capacities : (k : ℕ) → capacity_to e k ≡ capacity_to d k
  pub under_way : IsUnderWay y e

-- a recorder was told of the event of the rank's next half, if it has one, and of nothing else
abbrev pub TellsNext : {T : Type 0} → (T → TraceEvent → T → Type 0) → RankView → Desk Sparse → T → T → Type 0
TellsNext tells x d old new =
    IfSome (next_half x) (λ half. FoldsTo tells old (events_after x.me (lengths (posted_to d)) (lengths (taken_from d)) (half ∷ [])) new)

-- the event of what was taken. `mark` is the envelope that it has if it is a close mark; a letter has its own tag
abbrev pub arrival_event : {P : Type 0} → Envelope → Arrival P → TraceEvent
arrival_event mark (arrival_is.Letter letter) = Took (record mark { tag = letter.tag })
arrival_event mark (arrival_is.End from) = Ended mark
