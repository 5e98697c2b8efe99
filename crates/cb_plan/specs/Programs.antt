-- The program of each rank.
use Rattle.std.specs.Prelude.{◌≡◌, ℕ, ◌==◌, if◌then◌else◌, List, [], ◌∷◌, ◌++◌, Option, Some, None, drop, flat_map}
use Rattle.std.specs.List.{range_with_len}
use Rattle.cb_letters.specs.declared.Tag.{Tag}
use Rattle.cb_matrix.specs.Sparse.{Extent}
use Rattle.cb_plan.specs.declared.acts.Act.{Act}
use Rattle.cb_plan.specs.declared.acts.Act.TheVariants as act_is
use Rattle.cb_plan.specs.declared.acts.Half.{Half}
use Rattle.cb_plan.specs.declared.acts.Half.TheVariants as half_is
use Rattle.cb_plan.specs.declared.acts.Start.{Start}
use Rattle.cb_plan.specs.Meaning.{State, act}
use Rattle.cb_plan.specs.Algebras.{shapes}
use Rattle.cb_plan.specs.Checks.{CheckState, started, fault_from, slots_in, lanes_in}

-- a take of a sheet with the shape that the check gives it; a checked plan moves no empty slot
abbrev pub take_of : ℕ → Tag → ℕ → Option Extent → List Half
take_of from tag into (Some shape) = half_is.Take from tag into shape ∷ []
take_of from tag into None = []

-- the half of an act that a rank does, if the slots before it have these shapes
abbrev pub halves_of : State Extent → Act → ℕ → List Half
halves_of state (act_is.Move from to tag slot into) r =
    if from == r then half_is.Post to tag slot ∷ [] else (if to == r then take_of from tag into (state from slot) else [])
halves_of state (act_is.Work rank op) r = if rank == r then half_is.Work op ∷ [] else []
halves_of state (act_is.Shut from to) r = if from == r then half_is.Shut to ∷ [] else (if to == r then half_is.End from ∷ [] else [])

abbrev pub half_list : Option Half → List Half
half_list (Some half) = half ∷ []
half_list None = []

abbrev pub project_from : State Extent → List Act → ℕ → List Half
project_from state [] r = []
project_from state (a ∷ acts) r = halves_of state a r ++ project_from (act shapes a state) acts r

-- the program of a rank
abbrev pub project : List Start → List Act → ℕ → List Half
project starts acts r = project_from (started starts) acts r

-- a rank shuts its lane to another
abbrev pub own_shut : ℕ → ℕ → List Half
own_shut r to = if r == to then [] else half_is.Shut to ∷ []

-- what a rank does when all lanes from a sender are shut
abbrev pub closing_halves : ℕ → ℕ → ℕ → List Half
closing_halves ranks r from = if from == r then flat_map (own_shut r) (range_with_len 0 ranks) else half_is.End from ∷ []

-- a rank's program after the first i acts, with the state of the check there; `whole` has all its halves
pub record Projects (ranks : ℕ) (acts : List Act) (r i : ℕ) (o : CheckState) (halves whole : List Half) : Type 0 where
  pub ranks_are : o.ranks ≡ ranks
  pub no_fault : fault_from ranks i (slots_in o.slots) (lanes_in o.shut) (drop i acts) ≡ None
  pub so_far : halves ++ project_from (slots_in o.slots) (drop i acts) r ≡ whole
