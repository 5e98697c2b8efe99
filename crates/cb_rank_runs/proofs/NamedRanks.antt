-- Which ranks a failed run names.
use Rattle.std.proofs.Common.{◌≡◌, ℕ, zero, suc, ◌<◌, List, [], ◌∷◌, ◌++◌, ◌+◌, length, length-append, get_or, refl, sym, ◌∙◌, ap, subst, arith, inl, inr}
use Rattle.std.specs.Prelude.{Some, slice_get}
use Rattle.std.proofs.Math.Seq.{get_or-append_seam}
use Rattle.cb_semirings.specs.Arithmetic.{Arithmetic}
use Rattle.cb_matrix.specs.Sparse.{Sparse}
use Rattle.cb_plan.specs.declared.stores.Slot.{Slot}
use Rattle.cb_plan.specs.Plans.{CheckedView}
use Rattle.cb_rank.specs.Ranks.{RankView}
use Rattle.cb_rank_runs.specs.Crews.{Member, IsCrew}
use Rattle.cb_rank_runs.specs.Finished.{DidProgram}
use Rattle.cb_rank_runs.specs.NamedRanks.{IsFirstGone, IsOneOf}
use Rattle.cb_rank_runs.specs.Runs.{course_of}
use Rattle.cb_rank_runs.proofs.Crews.{place, run_at}

-- each member of a crew is one of its ranks
pub member_is_one : (before : List Member) (m : Member) (after : List Member) → IsOneOf (before ++ m ∷ after) m.1.me
member_is_one [] m after = inl refl
member_is_one (x ∷ xs) m after = inr (member_is_one xs m after)

below_all : (n : ℕ) (crew : List Member) (r : ℕ) → ((k : ℕ) (d : Member) → k < length crew → (get_or crew k d).1.me < n) → IsOneOf crew r → r < n
below_all n [] r low one = absurd one
below_all n (m ∷ ms) r low (inl e) = let here = low 0 m (omega arith) in subst (λ k. k < n) e here
below_all n (m ∷ ms) r low (inr rest) = below_all n ms r (λ k d l. low (suc k) d (omega arith)) rest

-- the k-th rank of a crew is rank k
me_at : (p : CheckedView) (first : List (List (Slot Sparse))) (crew : List Member) (k : ℕ) (d : Member) → IsCrew p first crew → k < length crew → (get_or crew k d).1.me ≡ k
me_at p first crew k d is l = (is.new k d l).desk.me ∙ ap (λ (x : RankView). x.me) (is.ranks k d l)

-- each rank of a crew is a rank of its plan
pub one_is_rank : (p : CheckedView) (first : List (List (Slot Sparse))) (crew : List Member) (r : ℕ) → IsCrew p first crew → IsOneOf crew r → r < p.ranks
one_is_rank p first crew r is one =
    below_all p.ranks crew r
    (λ k d l.
    let me = me_at p first crew k d is l in
    let size = is.count in
    rw me (omega arith))
    one

-- the first that is gone is one of them
gone_is_one : (s : Arithmetic) (crew : List Member) (r : ℕ) → IsFirstGone s crew r → IsOneOf crew r
gone_is_one s crew r gone = subst (λ ms. IsOneOf ms r) gone.all (subst (IsOneOf (gone.before ++ gone.rank ∷ gone.after)) gone.me (member_is_one gone.before gone.rank gone.after))

-- so it is a rank of the plan
pub gone_is_rank : (s : Arithmetic) (p : CheckedView) (first : List (List (Slot Sparse))) (crew : List Member) (r : ℕ) → IsCrew p first crew → IsFirstGone s crew r → r < p.ranks
gone_is_rank s p first crew r is gone = one_is_rank p first crew r is (gone_is_one s crew r gone)

stays : {X : Type 0} (xs ys : List X) (k : ℕ) (x : X) → slice_get xs k ≡ Some x → slice_get (xs ++ ys) k ≡ Some x
stays [] ys k x e = cc
stays (y ∷ xs) ys zero x e = e
stays (y ∷ xs) ys (suc k) x e = stays xs ys k x e

-- as many of them are before it as its number says
place_of : (s : Arithmetic) (p : CheckedView) (first : List (List (Slot Sparse))) (crew : List Member) (r : ℕ) → IsCrew p first crew → (gone : IsFirstGone s crew r) → length gone.before ≡ r
place_of s p first crew r is gone =
    let at : ℕ = length gone.before in
    let size : length crew ≡ at + suc (length gone.after) = ap length (sym gone.all) ∙ length-append gone.before (gone.rank ∷ gone.after) in
    let here : get_or crew at gone.rank ≡ gone.rank = subst (λ ms. get_or ms at gone.rank ≡ gone.rank) gone.all (get_or-append_seam gone.before gone.rank gone.after gone.rank) in
    sym (me_at p first crew at gone.rank is (omega arith)) ∙ ap (λ (m : Member). m.1.me) here ∙ gone.me

-- and each rank of a lower number did its whole program
pub least_gone : (s : Arithmetic) (p : CheckedView) (first : List (List (Slot Sparse))) (crew : List Member) (r : ℕ) → IsCrew p first crew → IsFirstGone s crew r → (k : ℕ) → k < r → DidProgram s p first k
least_gone s p first crew r is gone k l =
    let many = place_of s p first crew r is gone in
    let size : length crew ≡ length gone.before + suc (length gone.after) = ap length (sym gone.all) ∙ length-append gone.before (gone.rank ∷ gone.after) in
    let it = place s gone.before gone.left k gone.ran (omega arith) in
    let at : slice_get crew k ≡ Some it.old = subst (λ ms. slice_get ms k ≡ Some it.old) gone.all (stays gone.before (gone.rank ∷ gone.after) k it.old it.old_is) in
    (course_of it.new.0 it.new.1, run_at s p first crew k it.old it.new is at (omega arith) it.ran)
