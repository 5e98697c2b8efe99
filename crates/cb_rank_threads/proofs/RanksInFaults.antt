-- Which ranks a failed run in threads names.
use Rattle.std.proofs.Common.{◌≡◌, ℕ, List, ◌∷◌, ◌++◌, length, get_or, ap, subst}
use Rattle.std.proofs.Math.Seq.{get_or-append_seam}
use Rattle.cb_semirings.specs.Arithmetic.{Arithmetic}
use Rattle.cb_matrix.specs.Sparse.{Sparse}
use Rattle.cb_plan.specs.declared.stores.Slot.{Slot}
use Rattle.cb_plan.specs.Plans.{CheckedView}
use Rattle.cb_rank_runs.specs.Crews.{Member, IsCrew}
use Rattle.cb_rank_runs.specs.NamedRanks.{IsFaultOf, NamesLeast}
use Rattle.cb_rank_runs.proofs.NamedRanks.{gone_is_rank, least_gone, one_is_rank}
use Rattle.cb_rank_threads.specs.declared.crew_faults.CrewFault.{CrewFault}
use Rattle.cb_rank_threads.specs.declared.crew_faults.CrewFault.TheVariants as crew_fault_is
use Rattle.cb_rank_threads.specs.ThreadFaults.{ComesAfter, IsFaultIn, told_as}

-- a member comes after those before it
pub member_is_next : (before : List Member) (m : Member) (after crew : List Member) (n : ℕ) → length before ≡ n → before ++ m ∷ after ≡ crew → ComesAfter crew n m.1.me
member_is_next before m after crew n count whole d =
    let here : (get_or (before ++ m ∷ after) (length before) d).1.me ≡ m.1.me = ap (λ (x : Member). x.1.me) (get_or-append_seam before m after d) in
    subst (λ ms. (get_or ms n d).1.me ≡ m.1.me) whole (subst (λ k. (get_or (before ++ m ∷ after) k d).1.me ≡ m.1.me) count here)

-- a fault of a crew's threads names a rank of the plan
pub is_fault_of : (s : Arithmetic) (p : CheckedView) (first : List (List (Slot Sparse))) (crew : List Member) (fault : CrewFault) → IsCrew p first crew → IsFaultIn s crew fault → IsFaultOf p.ranks (told_as fault)
is_fault_of s p first crew (crew_fault_is.NotStarted none) is of_crew = one_is_rank p first crew none.rank is of_crew
is_fault_of s p first crew (crew_fault_is.Gone alone) is of_crew = gone_is_rank s p first crew alone.rank is of_crew

-- and of those that were left alone the least
pub names_least : (s : Arithmetic) (p : CheckedView) (first : List (List (Slot Sparse))) (crew : List Member) (fault : CrewFault) → IsCrew p first crew → IsFaultIn s crew fault → NamesLeast s p first (told_as fault)
names_least s p first crew (crew_fault_is.NotStarted none) is of_crew = tt
names_least s p first crew (crew_fault_is.Gone alone) is of_crew = least_gone s p first crew alone.rank is of_crew
