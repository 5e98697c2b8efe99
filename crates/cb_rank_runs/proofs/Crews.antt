-- If each rank of a crew ran its program over its desk, together they hold what the plan means.
use Rattle.std.proofs.Common.{◌≡◌, ◌≢◌, ℕ, zero, suc, ◌+◌, ◌<◌, ◌≤◌, ◌^◌, false, List, [], ◌∷◌, length, map, get_or, refl, sym, ap, ◌∙◌, subst, arith, ⊎_elim}
use Rattle.std.specs.Prelude.{All, Some, None, slice_get, ◌==◌}
use Rattle.std.specs.List.{AllZip}
use Rattle.std.proofs.lemmas.Bool.{cases_lt}
use Rattle.std.proofs.lemmas.Bool.Decides.{nat_tests}
use Rattle.std.proofs.lemmas.List.{get_or-map, length-map}
use Rattle.std.proofs.lemmas.List.Elements.{All-from_get_or, length_all_zip}
use Rattle.std.proofs.lemmas.List.Sums.{sum_by-le}
use Rattle.std.proofs.lemmas.Option.{slice_get-map, get_or_from_slice_get}
use Rattle.std.proofs.Math.ListN.{get_or-eq_default}
use Rattle.std.specs.Option.{option_map}
use Rattle.cb_semirings.specs.Arithmetic.{Arithmetic}
use Rattle.cb_matrix.specs.Sparse.{Sparse, Extent}
use Rattle.cb_letters.specs.declared.Tag.{Tag}
use Rattle.cb_letters.specs.declared.Letter.{Letter}
use Rattle.cb_plan.specs.declared.acts.Act.{Act}
use Rattle.cb_plan.specs.declared.acts.Act.TheVariants as act_is
use Rattle.cb_plan.specs.declared.stores.Slot.{Slot}
use Rattle.cb_plan.specs.declared.stores.Slot.TheVariants as slot_is
use Rattle.cb_plan.specs.declared.stores.TheConstants.{SLOTS}
use Rattle.cb_plan.specs.Algebras.{matrices, shapes}
use Rattle.cb_plan.specs.Checks.{IsSound, Passes, Lanes, shut_after, none_shut, started}
use Rattle.cb_plan.specs.PlanLetters.{Cargo, count_of, letters}
use Rattle.cb_plan.specs.Meaning.{Algebra, State, act, meaning}
use Rattle.cb_plan.specs.Plans.{CheckedView, IsChecked}
use Rattle.cb_plan.specs.Programs.{project}
use Rattle.cb_plan.specs.Stores.{state_of, Fits}
use Rattle.cb_plan.specs.PlanTables.{cell, IsTable}
use Rattle.cb_plan.proofs.PassingActs.{checked_passes}
use Rattle.cb_plan.proofs.ActOnStores.{first_below}
use Rattle.cb_lanes.specs.declared.desk.Desk.{Desk}
use Rattle.cb_lanes.specs.Desks.{identity, capacity_to, posted_to, taken_from, capacity_in, posted_in, taken_in, AreOfOneOpening, IsNewDesk, IsSettledLane}
use Rattle.cb_rank.specs.Agreement.{IsSlotOf, AreLettersOf}
use Rattle.cb_rank.specs.Halves.{Course, RunsTo}
use Rattle.cb_rank.specs.Ranks.{RankView, new_rank}
use Rattle.cb_rank.proofs.LostSlots.{whole_by}
use Rattle.cb_rank.proofs.OwnActs.{quiet_act}
use Rattle.cb_rank.proofs.RankAfterHalf.{few_halves}
use Rattle.cb_rank_runs.specs.Runs.{course_of, fresh, IsNewRun}
use Rattle.cb_rank_runs.specs.Crews.{Member, desks_of, stores_of, counts_of, AreNew, HaveCapacity, Ran, IsCrew}
use Rattle.cb_rank_runs.specs.Finished.{FinishedView, IsFinished, AllRun, FinishesPlan}
use Rattle.cb_rank_runs.proofs.Courses.{same_course}
use Rattle.cb_rank_runs.proofs.ClosingLaw.{AreFinished, closes}

-- nothing was posted on a new desk, whatever the other number
pub none_posted : (c n k : ℕ) (d : Desk Sparse) → IsNewDesk c n k d → (j : ℕ) → posted_to d j ≡ []
none_posted c n k d new j =
    ⊎_elim
    (λ (l : j < n). new.nothing_posted j l)
    (λ (l : n ≤ j). let size = new.ranks in rw (get_or-eq_default d.outgoing.items None {n = j} (omega arith)) refl)
    (cases_lt j n)

-- nothing was taken on a new desk, whatever the other number
pub none_taken : (c n k : ℕ) (d : Desk Sparse) → IsNewDesk c n k d → (j : ℕ) → taken_from d j ≡ []
none_taken c n k d new j =
    ⊎_elim
    (λ (l : j < n). new.nothing_taken j l)
    (λ (l : n ≤ j). let size = new.ranks in let same = d.ranks.0 in rw (get_or-eq_default d.incoming.items None {n = j} (omega arith)) refl)
    (cases_lt j n)

-- a new rank over a new desk has done nothing
pub new_course : (p : CheckedView) (me : ℕ) (slots : List (Slot Sparse)) (d : Desk Sparse) → IsNewRun (new_rank p me slots) d → course_of (new_rank p me slots) d ≡ fresh slots
new_course p me slots d new = same_course (course_of (new_rank p me slots) d) (fresh slots) refl refl (none_posted new.capacity p.ranks me d new.desk) (none_taken new.capacity p.ranks me d new.desk)

-- a run keeps the desks' ranks and rings
pub same_rings : (s : Arithmetic) (crew done : List Member) → AllZip (Ran s) crew done → map identity (desks_of done) ≡ map identity (desks_of crew)
same_rings s [] [] h = refl
same_rings s [] (y ∷ ys) h = absurd h
same_rings s (x ∷ xs) [] h = absurd h
same_rings s (x ∷ xs) (y ∷ ys) h = let here = h.0.rings in let rest = same_rings s xs ys h.1 in λ i. here i ∷ rest i

-- so the desks are still of one opening
pub still_opening : (s : Arithmetic) (p : CheckedView) (first : List (List (Slot Sparse))) (crew done : List Member) → IsCrew p first crew → AllZip (Ran s) crew done → AreOfOneOpening (map identity (desks_of done))
still_opening s p first crew done is ran = subst AreOfOneOpening (sym (same_rings s crew done ran)) is.opening

-- the k-th member, before and after its run
pub record Place (s : Arithmetic) (crew done : List Member) (k : ℕ) : Type 0 where
  pub old : Member
  pub new : Member
  pub old_is : slice_get crew k ≡ Some old
  pub new_is : slice_get done k ≡ Some new
  pub ran : Ran s old new

pub place : (s : Arithmetic) (crew done : List Member) (k : ℕ) → AllZip (Ran s) crew done → k < length crew → Place s crew done k
place s [] [] k h l = absurd (omega arith)
place s [] (y ∷ ys) k h l = absurd h
place s (x ∷ xs) [] k h l = absurd h
place s (x ∷ xs) (y ∷ ys) zero h l = record { old = x; new = y; old_is = refl; new_is = refl; ran = h.0 }
place s (x ∷ xs) (y ∷ ys) (suc k) h l =
    let it = place s xs ys k h.1 (omega arith) in
    record { old = it.old; new = it.new; old_is = it.old_is; new_is = it.new_is; ran = it.ran }

-- the element at a place of a list
known : {X : Type 0} (xs : List X) (k : ℕ) → k < length xs → (x : X) × (slice_get xs k ≡ Some x)
known [] k l = absurd (omega arith)
known (x ∷ xs) zero l = (x, refl)
known (x ∷ xs) (suc k) l = known xs k (omega arith)

slice_get_of : {X Y : Type 0} (f : X → Y) (xs : List X) (k : ℕ) (x : X) → slice_get xs k ≡ Some x → slice_get (map f xs) k ≡ Some (f x)
slice_get_of f xs k x e = slice_get-map f xs k ∙ ap (option_map f) e

-- the element of a list of images
pub get_or_of : {X Y : Type 0} (f : X → Y) (xs : List X) (k : ℕ) (x : X) (d : Y) → slice_get xs k ≡ Some x → get_or (map f xs) k d ≡ f x
get_or_of f xs k x d e = get_or_from_slice_get (map f xs) k (f x) d (slice_get_of f xs k x e)

-- how far the ranks of a crew have come
abbrev pub courses_in : List Member → ℕ → Course
courses_in done r = record {
  slots = get_or (stores_of done) r [];
  refusals = get_or (counts_of done) r 0;
  posted = posted_in (desks_of done) r;
  taken = λ f. taken_in (desks_of done) f r;
}

pub course_at : (done : List Member) (k : ℕ) (m : Member) → slice_get done k ≡ Some m → courses_in done k ≡ course_of m.0 m.1
course_at done k m e =
    let desk = slice_get_of (λ (x : Member). x.1) done k m e in
    same_course (courses_in done k) (course_of m.0 m.1) (get_or_of (λ (x : Member). x.0.slots) done k m [] e) (get_or_of (λ (x : Member). x.0.refusals) done k m 0 e)
    (λ j. rw desk refl) (λ j. rw desk refl)

-- a sound act has halves only at ranks of its plan, so it keeps the slots of other numbers
elsewhere : (ranks : ℕ) (outline : State Extent) (shut : Lanes) (a : Act) (r : ℕ) → IsSound ranks outline shut a → ranks ≤ r → count_of a r ≡ 0
elsewhere ranks outline shut (act_is.Move from to tag slot into) r sound l =
    let one = first_below ranks from (to ∷ []) sound.ranks_exist in
    let two = (first_below ranks to [] one.1).0 in
    let f : (from == r) ≡ false = let z = one.0 in grind (arith, nat_tests) in
    let g : (to == r) ≡ false = grind (arith, nat_tests) in
    rw (f, g) refl
elsewhere ranks outline shut (act_is.Work rank op) r sound l =
    let one = (first_below ranks rank [] sound.ranks_exist).0 in
    let f : (rank == r) ≡ false = grind (arith, nat_tests) in
    rw f refl
elsewhere ranks outline shut (act_is.Shut from to) r sound l =
    let one = first_below ranks from (to ∷ []) sound.ranks_exist in
    let two = (first_below ranks to [] one.1).0 in
    let f : (from == r) ≡ false = let z = one.0 in grind (arith, nat_tests) in
    let g : (to == r) ≡ false = grind (arith, nat_tests) in
    rw (f, g) refl

outside : (ops : Algebra Sparse) (ranks : ℕ) (acts : List Act) (state : State Sparse) (outline : State Extent) (shut : Lanes) (r n : ℕ) → Passes ranks outline shut acts → ranks ≤ r → meaning ops acts state r n ≡ state r n
outside ops ranks [] state outline shut r n passes l = refl
outside ops ranks (a ∷ acts) state outline shut r n passes l =
    outside ops ranks acts (act ops a state) (act shapes a outline) (shut_after a shut) r n passes.1 l
    ∙ quiet_act ops a r state n (elsewhere ranks outline shut a r passes.0 l)

-- the number of letters is the plan's
same_letters : (refs : ℕ → ℕ) (f t n : ℕ) (ws : List (Tag × Cargo Sparse)) (xs : List (Letter Sparse)) → AreLettersOf refs f t n ws xs → length xs ≡ length ws
same_letters refs f t n [] [] h = refl
same_letters refs f t n [] (x ∷ xs) h = absurd h
same_letters refs f t n (w ∷ ws) [] h = absurd h
same_letters refs f t n (w ∷ ws) (x ∷ xs) h = ap suc (same_letters refs f t (n + 1) ws xs h.3)

-- what a rank of a crew did by itself
pub run_at : (s : Arithmetic) (p : CheckedView) (first : List (List (Slot Sparse))) (crew : List Member) (r : ℕ) (old new : Member) → IsCrew p first crew → slice_get crew r ≡ Some old → r < length crew → Ran s old new → RunsTo s r (project p.starts p.acts r) (fresh (get_or first r [])) (course_of new.0 new.1)
run_at s p first crew r old new is at l ran =
    let here : get_or crew r old ≡ old = get_or_from_slice_get crew r old old at in
    let rank : old.0 ≡ new_rank p r (get_or first r []) = ap (λ (m : Member). m.0) (sym here) ∙ is.ranks r old l in
    let begins : IsNewRun (new_rank p r (get_or first r [])) old.1 = subst (λ x. IsNewRun x old.1) rank (subst (λ (m : Member). IsNewRun m.0 m.1) here (is.new r old l)) in
    let did : RunsTo s r (project p.starts p.acts r) (course_of (new_rank p r (get_or first r [])) old.1) (course_of new.0 new.1) = subst (λ x. RunsTo s x.me x.program (course_of x old.1) (course_of new.0 new.1)) rank ran.halves in
    subst (λ z. RunsTo s r (project p.starts p.acts r) z (course_of new.0 new.1)) (new_course p r (get_or first r []) old.1 begins) did

-- what each rank of a crew that ran did by itself
run_of : (s : Arithmetic) (p : CheckedView) (first : List (List (Slot Sparse))) (crew done : List Member) (r : ℕ) → IsCrew p first crew → AllZip (Ran s) crew done → r < length crew → RunsTo s r (project p.starts p.acts r) (fresh (get_or first r [])) (courses_in done r)
run_of s p first crew done r is ran l =
    let it = place s crew done r ran l in
    subst (λ z. RunsTo s r (project p.starts p.acts r) (fresh (get_or first r [])) z) (sym (course_at done r it.new it.new_is))
    (run_at s p first crew r it.old it.new is it.old_is l it.ran)

-- each rank left a store of 256 slots
tables_of : (s : Arithmetic) (p : CheckedView) (first : List (List (Slot Sparse))) (crew done : List Member) → IsCrew p first crew → AllZip (Ran s) crew done → IsTable p.ranks SLOTS (stores_of done)
tables_of s p first crew done is ran = record {
  rows = length-map done (λ (m : Member). m.0.slots) ∙ sym (length_all_zip (Ran s) crew done ran) ∙ is.count;
  cols = λ r l.
      let it = place s crew done r ran (let size = is.count in omega arith) in
      ap length (get_or_of (λ (x : Member). x.0.slots) done r it.new [] it.new_is) ∙ it.ran.rank.size;
}

abbrev pub finished_by : List Member → FinishedView
finished_by done = record { stores = stores_of done; refusals = counts_of done; posted = posted_in (desks_of done); taken = taken_in (desks_of done); capacity = capacity_in (desks_of done) }

-- the closing law of crews, if each rank ran its program over its desk, and what was taken on each lane is a prefix of what was
-- posted there
pub finishes_all : (s : Arithmetic) (p : CheckedView) (first : List (List (Slot Sparse))) (crew done : List Member) → IsChecked p → p.ranks < 2 ^ 16 → Fits p.ranks p.starts first → IsCrew p first crew → AllZip (Ran s) crew done
    → ((from to : ℕ) → from < length done → to < length done → from ≢ to → IsSettledLane (posted_in (desks_of done) from to) (taken_in (desks_of done) from to))
    → FinishesPlan s p first (finished_by done)
finishes_all s p first crew done checked few fits is ran settled =
    let size : length done ≡ p.ranks = sym (length_all_zip (Ran s) crew done ran) ∙ is.count in
    let refs : ℕ → ℕ = λ q. get_or (counts_of done) q 0 in
    let mean : State Sparse = meaning (matrices s) p.acts (state_of first) in
    let halves : AllRun s p first (finished_by done) = λ r h. run_of s p first crew done r is ran (omega (arith, is.count)) in
    let end : AreFinished s p first (courses_in done) = closes s p first (courses_in done) checked fits
    halves
    (λ f t g h ne. (settled f t (omega arith) (omega arith) ne).prefix) in
    let slots : (r n : ℕ) → IsSlotOf refs (mean r n) (cell slot_is.Empty (stores_of done) r n) = λ r n.
    ⊎_elim
    (λ (l : r < p.ranks). end.slots r n l)
    (λ (l : p.ranks ≤ r).
    let none : get_or (stores_of done) r [] ≡ [] = get_or-eq_default (stores_of done) [] {n = r} (omega (arith, length-map done (λ (m : Member). m.0.slots))) in
    let blank : get_or first r [] ≡ [] = get_or-eq_default first [] {n = r} (omega (arith, fits.table.rows)) in
    rw none (outside (matrices s) p.ranks p.acts (state_of first) (started p.starts) none_shut r n (checked_passes p.ranks 0 (started p.starts) none_shut p.acts checked.no_fault) l ∙ rw blank refl))
    (cases_lt r p.ranks) in
    record {
      checked = checked;
      few = few;
      left = record {
        table = tables_of s p first crew done is ran;
        counts = length-map done (λ (m : Member). m.0.refusals) ∙ size;
        slots = slots;
        whole = whole_by (counts_of done) mean (stores_of done) slots;
      };
      lanes = λ f t g h ne. let l = end.lanes f t g h ne in record {
        posted = l.0;
        taken = l.1;
        count = same_letters refs f t 0 (letters (matrices s) p.acts (state_of first) f t) (posted_in (desks_of done) f t) l.0;
      };
      halves = halves;
    }

-- no rank was refused memory more often than its program has halves
few_refusals : (s : Arithmetic) (p : CheckedView) (first : List (List (Slot Sparse))) (crew done : List Member) → IsCrew p first crew → AllZip (Ran s) crew done → All (λ n. n ≤ 4294967295) (counts_of done)
few_refusals s p first crew done is ran =
    All-from_get_or (λ n. n ≤ 4294967295) (counts_of done) 0 (λ i l.
    let size = length_all_zip (Ran s) crew done ran in
    let counts = length-map done (λ (m : Member). m.0.refusals) in
    let it = place s crew done i ran (omega arith) in
    let rank = it.ran.rank in
    let same = get_or_of (λ (x : Member). x.0.refusals) done i it.new 0 it.new_is in
    let short = few_halves it.new.0 rank in
    let so_far = rank.progress in
    let refused = rank.refusals in
    omega arith)

-- the counts of refusals are one for each rank, and their sum fits in 64 bits
pub is_finished : (s : Arithmetic) (p : CheckedView) (first : List (List (Slot Sparse))) (crew done : List Member) → p.ranks < 2 ^ 16 → IsCrew p first crew → AllZip (Ran s) crew done → IsFinished (finished_by done)
is_finished s p first crew done few is ran =
    let size : length done ≡ p.ranks = sym (length_all_zip (Ran s) crew done ran) ∙ is.count in
    let counts = length-map done (λ (m : Member). m.0.refusals) in
    let bound = sum_by-le (λ (x : ℕ). x) 4294967295 (counts_of done) (few_refusals s p first crew done is ran) in
    record { ranks = counts ∙ sym (length-map done (λ (m : Member). m.0.slots)); fits = omega arith }

-- new ranks with their stores, and with the desks of one opening, are a crew
pub is_crew : (c : ℕ) (p : CheckedView) (first : List (List (Slot Sparse))) (crew : List Member) (desks : List (Desk Sparse)) → length desks ≡ p.ranks → desks_of crew ≡ desks → AreOfOneOpening (map identity desks)
    → ((k : ℕ) (a : Desk Sparse) → k < p.ranks → IsNewDesk c p.ranks k (get_or desks k a))
    → ((k : ℕ) (d : Member) → k < length crew → (get_or crew k d).0 ≡ new_rank p k (get_or first k []))
    → IsCrew p first crew
is_crew c p first crew desks count same opening new ranks =
    let size : length crew ≡ p.ranks = sym (length-map crew (λ (m : Member). m.1)) ∙ ap length same ∙ count in
    record {
      count = size;
      ranks = ranks;
      new = λ k d l.
          let rank = ranks k d l in
          let desk : get_or desks k d.1 ≡ (get_or crew k d).1 = ap (λ (ds : List (Desk Sparse)). get_or ds k d.1) (sym same) ∙ get_or-map (λ (m : Member). m.1) crew k d d.1 l in
          record {
            undone = ap (λ (x : RankView). x.done) rank;
            capacity = c;
            desk = rw rank (subst (λ (z : Desk Sparse). IsNewDesk c p.ranks k z) desk (new k d.1 (omega arith)));
          };
      opening = subst (λ ds. AreOfOneOpening (map identity ds)) (sym same) opening;
    }

-- the lanes of new desks have room for as many letters as was asked
pub have_capacity : (c n : ℕ) (crew : List Member) (desks : List (Desk Sparse)) → length desks ≡ n → desks_of crew ≡ desks
    → ((k : ℕ) (a : Desk Sparse) → k < n → IsNewDesk c n k (get_or desks k a)) → HaveCapacity c crew
have_capacity c n crew desks count same new from to l m ne =
    let size : length crew ≡ n = sym (length-map crew (λ (x : Member). x.1)) ∙ ap length same ∙ count in
    let it = known crew from (omega arith) in
    let desk : get_or desks from it.0.1 ≡ it.0.1 = ap (λ (ds : List (Desk Sparse)). get_or ds from it.0.1) (sym same) ∙ get_or_of (λ (x : Member). x.1) crew from it.0 it.0.1 it.1 in
    let held : capacity_to it.0.1 to ≡ c = subst (λ (z : Desk Sparse). capacity_to z to ≡ c) desk ((new from it.0.1 (omega arith)).room to (omega arith) (λ e. ne (sym e))).1 in
    rw (slice_get_of (λ (x : Member). x.1) crew from it.0 it.1) held

-- a run keeps how many letters the lanes hold
pub still_capacity : (s : Arithmetic) (c : ℕ) (crew done : List Member) → AllZip (Ran s) crew done → HaveCapacity c crew → HaveCapacity c done
still_capacity s c crew done ran was from to l m ne =
    let size = length_all_zip (Ran s) crew done ran in
    let it = place s crew done from ran (omega arith) in
    let before : capacity_in (desks_of crew) from to ≡ c = was from to (omega arith) (omega arith) ne in
    let old : capacity_to it.old.1 to ≡ c = rw (slice_get_of (λ (x : Member). x.1) crew from it.old it.old_is) at before in
    rw (slice_get_of (λ (x : Member). x.1) done from it.new it.new_is) (it.ran.capacities to ∙ old)

-- each member of a crew is a new rank with a new desk
pub are_new : (crew : List Member) → ((k : ℕ) (d : Member) → k < length crew → IsNewRun (get_or crew k d).0 (get_or crew k d).1) → AreNew crew
are_new [] new = tt
are_new (m ∷ ms) new = (new 0 m (omega arith), are_new ms (λ k d l. new (suc k) d (omega arith)))
