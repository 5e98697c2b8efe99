-- The loop over a rank's halves.
use Rattle.std.proofs.Common.{◌≡◌, ℕ, zero, suc, ◌+◌, ◌≤◌, List, [], ◌∷◌, ◌++◌, length, take, refl, sym, ◌∙◌, ap, subst, arith}
use Rattle.std.specs.Prelude.{Some, None, slice_get}
use Rattle.std.proofs.lemmas.List.{take_all}
use Rattle.cb_semirings.specs.Arithmetic.{Arithmetic}
use Rattle.cb_matrix.specs.Sparse.{Sparse}
use Rattle.cb_letters.specs.Posted.{ends_closed}
use Rattle.cb_lanes.specs.declared.desk.Desk.{Desk}
use Rattle.cb_lanes.specs.Desks.{identity, capacity_to}
use Rattle.cb_rings.specs.Numbers.{AreNumbered}
use Rattle.cb_plan.specs.declared.acts.Half.{Half}
use Rattle.cb_plan.specs.Checks.{none_shut, lanes_after}
use Rattle.cb_plan.specs.PlanLetters.{before}
use Rattle.cb_rank.specs.Halves.{Course, DoesHalf, RunsTo}
use Rattle.cb_rank.specs.Ranks.{RankView, IsRank, next_half, onward}
use Rattle.cb_rank.proofs.LanesByHalves.{take-next}
use Rattle.cb_rank_runs.specs.Runs.{course_of, IsNewRun, Runs}
use Rattle.cb_rank_runs.specs.UnderWay.{IsUnderWay, DoesNext}
use Rattle.cb_rank_runs.proofs.Crews.{none_taken}
use Rattle.cb_rank_runs.proofs.ShutLanes.{lanes-before_next}

-- a rank has done a part of its program over its desk, from x and d to y and e
pub record HasRun (s : Arithmetic) (x : RankView) (d : Desk Sparse) (y : RankView) (e : Desk Sparse) : Type 0 where
  pub same : y ≡ record x { done = y.done; slots = y.slots; refusals = y.refusals }
  pub halves : RunsTo s x.me (take y.done x.program) (course_of x d) (course_of y e)
  pub rings : identity e ≡ identity d
  pub capacities : (k : ℕ) → capacity_to e k ≡ capacity_to d k
  pub under_way : IsUnderWay y e

-- one more half
pub runs_to-append : (s : Arithmetic) (me : ℕ) (hs : List Half) (h : Half) (a b c : Course) → RunsTo s me hs a b → DoesHalf s me h b c → RunsTo s me (hs ++ h ∷ []) a c
runs_to-append s me [] h a b c runs does = (c, subst (λ z. DoesHalf s me h z c) runs does, refl)
runs_to-append s me (g ∷ hs) h a b c runs does = (runs.0, runs.1, runs_to-append s me hs h runs.0 b c runs.2 does)

-- a rank that has done nothing
pub begins : (s : Arithmetic) (x : RankView) (d : Desk Sparse) → IsNewRun x d → HasRun s x d x d
begins s x d new = record {
  same = refl;
  halves = rw new.undone refl;
  rings = refl;
  capacities = λ k. refl;
  under_way = record {
    me = new.desk.me;
    ranks = new.desk.ranks;
    numbered = λ k. subst AreNumbered (sym (none_taken new.capacity x.plan.ranks x.me d new.desk k)) (λ i y below. absurd (omega arith));
    ends = λ k. ap ends_closed (none_taken new.capacity x.plan.ranks x.me d new.desk k) ∙ sym (ap (λ n. lanes_after (before x.plan.acts x.me n) none_shut k x.me) new.undone ∙ lanes-before_next x.plan.acts none_shut k x.me);
  };
}

-- a rank that does one more half
pub goes_on : (s : Arithmetic) (x : RankView) (d : Desk Sparse) (y : RankView) (e : Desk Sparse) (z : RankView) (f : Desk Sparse) → HasRun s x d y e → DoesNext s y e z f → HasRun s x d z f
goes_on s x d y e z f run next =
    let done : z.done ≡ y.done + 1 = ap (λ (v : RankView). v.done) next.one_more in
    let me : y.me ≡ x.me = ap (λ (v : RankView). v.me) run.same in
    let program : y.program ≡ x.program = ap (λ (v : RankView). v.program) run.same in
    let there : slice_get x.program y.done ≡ Some next.half = sym (ap (λ hs. slice_get hs y.done) program) ∙ next.next in
    let more : take z.done x.program ≡ take y.done x.program ++ next.half ∷ [] = ap (λ n. take n x.program) done ∙ take-next x.program y.done next.half there in
    let does : DoesHalf s x.me next.half (course_of y e) (course_of z f) = subst (λ m. DoesHalf s m next.half (course_of y e) (course_of z f)) me next.does in
    record {
      same = next.one_more ∙ ap (λ v. onward v z.slots z.refusals) run.same ∙ ap (λ n. record x { done = n; slots = z.slots; refusals = z.refusals }) (sym done);
      halves = subst (λ hs. RunsTo s x.me hs (course_of x d) (course_of z f)) (sym more) (runs_to-append s x.me (take y.done x.program) next.half (course_of x d) (course_of y e) (course_of z f) run.halves does);
      rings = next.rings ∙ run.rings;
      capacities = λ k. next.capacities k ∙ run.capacities k;
      under_way = next.under_way;
    }

-- a list without an element at a place ends before it
pub none_past : {A : Type 0} (xs : List A) (k : ℕ) → slice_get xs k ≡ None → length xs ≤ k
none_past [] k e = omega arith
none_past (x ∷ xs) zero e = cc
none_past (x ∷ xs) (suc k) e = let h = none_past xs k e in omega arith

-- a rank that has done its program
pub ends : (s : Arithmetic) (x : RankView) (d : Desk Sparse) (y : RankView) (e : Desk Sparse) → HasRun s x d y e → IsRank y → next_half y ≡ None → Runs s x d y e
ends s x d y e run is none =
    let program : y.program ≡ x.program = ap (λ (v : RankView). v.program) run.same in
    let past : length x.program ≤ y.done = none_past x.program y.done (sym (ap (λ hs. slice_get hs y.done) program) ∙ none) in
    let within : y.done ≤ length x.program = subst (λ hs. y.done ≤ length hs) program is.progress in
    let all : y.done ≡ length x.program = omega arith in
    record {
      done = run.same ∙ ap (λ n. record x { done = n; slots = y.slots; refusals = y.refusals }) all;
      halves = subst (λ hs. RunsTo s x.me hs (course_of x d) (course_of y e)) (take_all y.done x.program past) run.halves;
      numbered = run.under_way.numbered;
      rings = run.rings;
      capacities = run.capacities;
      rank = is;
    }
