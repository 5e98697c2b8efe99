-- Which rank a fault of a run names.
use Rattle.std.specs.Prelude.{◌≡◌, ℕ, ◌<◌, ◌⊎◌, List, [], ◌∷◌, ◌++◌}
use Rattle.std.specs.List.{AllZip}
use Rattle.cb_semirings.specs.Arithmetic.{Arithmetic}
use Rattle.cb_matrix.specs.Sparse.{Sparse}
use Rattle.cb_rank_faults.specs.declared.RanksFault.{RanksFault}
use Rattle.cb_rank_faults.specs.declared.RanksFault.TheVariants.{Memory, NotStarted, Gone, TraceTorn, Lost}
use Rattle.cb_plan.specs.declared.stores.Slot.{Slot}
use Rattle.cb_plan.specs.Plans.{CheckedView}
use Rattle.cb_rank_runs.specs.Crews.{Member, Ran}
use Rattle.cb_rank_runs.specs.Finished.{DidProgram}

-- one of them has the desk of this rank
abbrev pub IsOneOf : List Member → ℕ → Type 0
IsOneOf [] r = ⊥
IsOneOf (m ∷ ms) r = (m.1.me ≡ r) ⊎ IsOneOf ms r

-- this rank is the first of them that can't have run: all before it ran
pub record IsFirstGone (s : Arithmetic) (crew : List Member) (r : ℕ) : Type 0 where
  pub before : List Member
  pub rank : Member
  pub after : List Member
  pub all : before ++ rank ∷ after ≡ crew
  -- what a run of each rank before it left
  pub left : List Member
  pub ran : AllZip (Ran s) before left
  pub me : rank.1.me ≡ r

-- A fault of a run in threads of this many ranks: the rank that it names, if it names one, is one of them. No trace is kept, so
-- none is torn. A lost block is in what the ranks leave, so the run that lost it has no fault.
abbrev pub IsFaultOf : ℕ → RanksFault → Type 0
IsFaultOf ranks Memory = Unit {0}
IsFaultOf ranks (NotStarted r) = r < ranks
IsFaultOf ranks (Gone r) = r < ranks
IsFaultOf ranks TraceTorn = ⊥
IsFaultOf ranks (Lost r count) = ⊥

-- if the fault names a rank that was left alone, each rank below it did its whole program: none of these was
abbrev pub NamesLeast : Arithmetic → CheckedView → List (List (Slot Sparse)) → RanksFault → Type 0
NamesLeast s p first (Gone r) = (k : ℕ) → k < r → DidProgram s p first k
NamesLeast s p first fault = Unit {0}
