-- A crew: all ranks of a plan, each with its desk, before they run and after.
use Rattle.std.specs.Prelude.{◌≡◌, ◌≢◌, ℕ, ◌<◌, List, [], ◌∷◌, length, map, get_or}
use Rattle.cb_semirings.specs.Arithmetic.{Arithmetic}
use Rattle.cb_matrix.specs.Sparse.{Sparse}
use Rattle.cb_plan.specs.declared.stores.Slot.{Slot}
use Rattle.cb_plan.specs.Plans.{CheckedView}
use Rattle.cb_lanes.specs.declared.desk.Desk.{Desk}
use Rattle.cb_lanes.specs.Desks.{identity, capacity_in, AreOfOneOpening}
use Rattle.cb_rank.specs.Ranks.{RankView, new_rank}
use Rattle.cb_rank_runs.specs.Runs.{IsNewRun, Runs}

-- a rank with its desk
abbrev pub Member : Type 0
Member = RankView × Desk Sparse

abbrev pub desks_of : List Member → List (Desk Sparse)
desks_of crew = map (λ m. m.1) crew

abbrev pub stores_of : List Member → List (List (Slot Sparse))
stores_of crew = map (λ m. m.0.slots) crew

-- how often each was refused memory
abbrev pub counts_of : List Member → List ℕ
counts_of crew = map (λ m. m.0.refusals) crew

-- each is a new rank with a new desk
abbrev pub AreNew : List Member → Type 0
AreNew [] = Unit {0}
AreNew (m ∷ ms) = IsNewRun m.0 m.1 × AreNew ms

-- each lane between two of them holds this many letters
abbrev pub HaveCapacity : ℕ → List Member → Type 0
HaveCapacity c crew = (from to : ℕ) → from < length crew → to < length crew → from ≢ to → capacity_in (desks_of crew) from to ≡ c

-- the second member is what a run of the first leaves
abbrev pub Ran : Arithmetic → Member → Member → Type 0
Ran s old new = Runs s old.0 old.1 new.0 new.1

-- the k-th rank is the plan's new rank k, with the k-th of these stores
abbrev pub AreNewRanks : CheckedView → List (List (Slot Sparse)) → List Member → Type 0
AreNewRanks p first crew = (k : ℕ) (d : Member) → k < length crew → (get_or crew k d).0 ≡ new_rank p k (get_or first k [])

-- the ranks of a plan in order, each new, with its store and its desk; and the desks are of one opening
pub record IsCrew (p : CheckedView) (first : List (List (Slot Sparse))) (crew : List Member) : Type 0 where
  pub count : length crew ≡ p.ranks
  pub ranks : AreNewRanks p first crew
  pub new : (k : ℕ) (d : Member) → k < length crew → IsNewRun (get_or crew k d).0 (get_or crew k d).1
  pub opening : AreOfOneOpening (map identity (desks_of crew))
