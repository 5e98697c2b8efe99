-- A world in which all is done holds what its plan means.
use Rattle.std.proofs.Common.{◌≡◌, ℕ, ◌+◌, ◌-◌, ◌<◌, ◌≤◌, false, List, [], ◌∷◌, ◌++◌, length, map, refl, sym, ◌∙◌, ap, subst, arith, length-append, append-nil}
use Rattle.std.specs.Prelude.{Option, nat_lt, get_or}
use Rattle.std.proofs.lemmas.Bool.Decides.{nat_tests}
use Rattle.std.proofs.lemmas.List.{append_cancel_left, length-map}
use Rattle.std.proofs.Math.ListN.{get_or-map}
use Rattle.cb_semirings.specs.Arithmetic.{Arithmetic}
use Rattle.cb_matrix.specs.Sparse.{Sparse, Extent}
use Rattle.cb_letters.specs.declared.Tag.{Tag}
use Rattle.cb_letters.specs.declared.Letter.{Letter}
use Rattle.cb_plan.specs.declared.acts.Act.{Act}
use Rattle.cb_plan.specs.declared.acts.Act.TheVariants as act_is
use Rattle.cb_plan.specs.declared.stores.Slot.{Slot}
use Rattle.cb_plan.specs.declared.stores.Slot.TheVariants as slot_is
use Rattle.cb_plan.specs.Meaning.{State, act, meaning}
use Rattle.cb_plan.specs.PlanLetters.{Cargo, count_of, before, letters}
use Rattle.cb_plan.specs.Algebras.{matrices, shapes}
use Rattle.cb_plan.specs.Checks.{Lanes, IsSound, Passes, shut_after, none_shut, started}
use Rattle.cb_plan.specs.Programs.{halves_of, project_from, project}
use Rattle.cb_plan.specs.Stores.{state_of}
use Rattle.cb_plan.specs.PlanTables.{cell, IsTable}
use Rattle.cb_plan.proofs.ActOnStores.{first_below}
use Rattle.cb_rank.specs.Agreement.{IsSlotOf, AreLettersOf}
use Rattle.cb_rank.specs.Halves.{slot_at}
use Rattle.cb_rank.specs.Leavings.{HoldsMeaning}
use Rattle.cb_rank.specs.Ranks.{RankView}
use Rattle.cb_plan.proofs.Effects.{split}
use Rattle.cb_rank.proofs.OwnActs.{counted}
use Rattle.cb_rank.proofs.NextAct.{both_below}
use Rattle.cb_rank.proofs.LostSlots.{whole_by}
use Rattle.cb_rank_world.specs.Worlds.{WorldView, IsWorld, no_rank, rank_of, lane_between, system_of, AllDone, IsFinished}
use Rattle.cb_rank_world.proofs.NextHalf.{passes_of, program_of}
use Rattle.cb_rank_world.proofs.NoDeadlock.{is_done_by}

-- the number of halves of the acts that a rank does
abbrev pub total : List Act → ℕ → ℕ
total [] r = 0
total (a ∷ acts) r = count_of a r + total acts r

pub before_all : (acts : List Act) (r k : ℕ) → total acts r ≤ k → before acts r k ≡ acts
before_all [] r k l = refl
before_all (a ∷ acts) r k l =
    let f : nat_lt k (count_of a r) ≡ false = grind (arith, nat_tests) in
    rw f (ap (λ x. a ∷ x) (before_all acts r (k - count_of a r) (omega arith)))

-- it is the length of the rank's program
pub total_program : (ranks : ℕ) (shut : Lanes) (acts : List Act) (state : State Extent) (r : ℕ) → Passes ranks state shut acts → length (project_from state acts r) ≡ total acts r
total_program ranks shut [] state r p = refl
total_program ranks shut (a ∷ acts) state r p =
    let size = counted ranks state shut a r p.0 in
    let rest = total_program ranks (shut_after a shut) acts (act shapes a state) r p.1 in
    length-append (halves_of state a r) (project_from (act shapes a state) acts r) ∙ rw (size, rest) refl

outside : (ranks : ℕ) (state : State Extent) (shut : Lanes) (a : Act) (r : ℕ) → IsSound ranks state shut a → ranks ≤ r → count_of a r ≡ 0
outside ranks state shut (act_is.Move from to tag slot into) r h l = let both = both_below ranks from to h.ranks_exist in let b = both.0 in let c = both.1 in grind (arith, nat_tests)
outside ranks state shut (act_is.Work rank op) r h l = let b = (first_below ranks rank [] h.ranks_exist).0 in grind (arith, nat_tests)
outside ranks state shut (act_is.Shut from to) r h l = let both = both_below ranks from to h.ranks_exist in let b = both.0 in let c = both.1 in grind (arith, nat_tests)

-- a rank that doesn't exist does nothing
pub total_outside : (ranks : ℕ) (shut : Lanes) (acts : List Act) (state : State Extent) (r : ℕ) → Passes ranks state shut acts → ranks ≤ r → total acts r ≡ 0
total_outside ranks shut [] state r p l = refl
total_outside ranks shut (a ∷ acts) state r p l =
    let here = outside ranks state shut a r p.0 l in
    let rest = total_outside ranks (shut_after a shut) acts (act shapes a state) r p.1 l in
    rw (here, rest) refl

no_letters : {M : Type 0} (refusals : ℕ → ℕ) (from to n : ℕ) (ws : List (Tag × Cargo M)) (ls : List (Letter M)) → ws ≡ [] → AreLettersOf refusals from to n ws ls → ls ≡ []
no_letters refusals from to n [] [] e h = refl
no_letters refusals from to n [] (l ∷ ls) e h = absurd h
no_letters refusals from to n (w ∷ ws) ls e h = cc

-- once all are done, no act is ahead of any rank
pub all_before : (s : Arithmetic) (w : WorldView) → IsWorld s w → AllDone w → (r : ℕ) → before w.plan.acts r (rank_of w r).done ≡ w.plan.acts
all_before s w sound done r =
    let passes = passes_of s w sound in
    before_all w.plan.acts r (rank_of w r).done
    (split (nat_lt r w.plan.ranks)
    (λ t.
    let inside : r < w.plan.ranks = grind (arith, nat_tests) in
    let past = is_done_by (rank_of w r) (done r) in
    let size : length (project w.plan.starts w.plan.acts r) ≡ total w.plan.acts r = total_program w.plan.ranks none_shut w.plan.acts (started w.plan.starts) r passes in
    let same : length (rank_of w r).program ≡ length (project w.plan.starts w.plan.acts r) = ap length (program_of w r (sound.ranks r inside)) in
    omega arith)
    (λ f.
    let out : w.plan.ranks ≤ r = grind (arith, nat_tests) in
    let nothing = total_outside w.plan.ranks none_shut w.plan.acts (started w.plan.starts) r passes out in
    omega arith))

-- no letter is queued, and all letters of the plan were taken
pub finishes : (s : Arithmetic) (w : WorldView) → IsWorld s w → AllDone w → IsFinished s w
finishes s w sound done =
    let all = all_before s w sound done in
    record {
      done = done;
      queues = λ p q ne.
          let h = sound.agrees.lanes p q ne in
          let whole : List (Tag × Cargo Sparse) = letters (matrices s) w.plan.acts (state_of w.first) p q in
          let e : whole ++ h.waits.0 ≡ whole = subst (λ x. letters (matrices s) x (state_of w.first) p q ++ h.waits.0 ≡ whole) (all q) (subst (λ x. letters (matrices s) (before w.plan.acts q (rank_of w q).done) (state_of w.first) p q ++ h.waits.0 ≡ letters (matrices s) x (state_of w.first) p q) (all p) h.waits.1) in
          let nothing : h.waits.0 ≡ [] = append_cancel_left whole h.waits.0 [] (e ∙ sym (append-nil _)) in
          no_letters (system_of w).refusals p q (lane_between w p q).taken h.waits.0 (lane_between w p q).queue nothing h.waits.2;
      taken = λ p q ne. (sound.agrees.lanes p q ne).counted ∙ ap (λ x. length (letters (matrices s) x (state_of w.first) p q)) (all q);
    }

-- the list of the ranks' stores has their slots
slots_in_order : (w : WorldView) (r n : ℕ) → cell slot_is.Empty (map (λ (x : RankView). x.slots) w.ranks) r n ≡ slot_at (rank_of w r).slots n
slots_in_order w r n = ap (λ xs. slot_at xs n) (get_or-map (λ (x : RankView). x.slots) w.ranks r no_rank)

-- the list of their counts has their counts of refusals
counts_in_order : (w : WorldView) → (λ k. get_or (map (λ (x : RankView). x.refusals) w.ranks) k 0) ≡ (system_of w).refusals
counts_in_order w = λ i k. get_or-map (λ (x : RankView). x.refusals) w.ranks k no_rank i

-- there is a store for each rank, with all the slots of a rank
stores_are_table : (s : Arithmetic) (w : WorldView) → IsWorld s w → IsTable w.plan.ranks 256 (map (λ (x : RankView). x.slots) w.ranks)
stores_are_table s w sound = record {
  rows = length-map w.ranks (λ (x : RankView). x.slots) ∙ sound.sizes.0;
  cols = λ r l. ap length (get_or-map (λ (x : RankView). x.slots) w.ranks r no_rank) ∙ (sound.ranks r l).sound.size;
}

-- once all are done, a rank's slot agrees with what the plan means there
slot_means : (s : Arithmetic) (w : WorldView) → IsWorld s w → AllDone w → (r n : ℕ) →
    IsSlotOf (λ k. get_or (map (λ (x : RankView). x.refusals) w.ranks) k 0) (meaning (matrices s) w.plan.acts (state_of w.first) r n) (cell slot_is.Empty (map (λ (x : RankView). x.slots) w.ranks) r n)
slot_means s w sound done r n =
    let wanted : List Act → Option Sparse = λ acts. meaning (matrices s) acts (state_of w.first) r n in
    let refusals = (system_of w).refusals in
    let here : IsSlotOf refusals (wanted w.plan.acts) (slot_at (rank_of w r).slots n) = subst (λ acts. IsSlotOf refusals (wanted acts) (slot_at (rank_of w r).slots n)) (all_before s w sound done r) (sound.agrees.ranks r n) in
    subst (λ f. IsSlotOf f (wanted w.plan.acts) (cell slot_is.Empty (map (λ (x : RankView). x.slots) w.ranks) r n)) (sym (counts_in_order w))
    (subst (λ x. IsSlotOf refusals (wanted w.plan.acts) x) (sym (slots_in_order w r n)) here)

-- so the stores of all ranks and their counts hold what the plan means
pub leaves : (s : Arithmetic) (w : WorldView) → IsWorld s w → AllDone w → (stores : List (List (Slot Sparse))) (refusals : List ℕ) → stores ≡ map (λ (x : RankView). x.slots) w.ranks → refusals ≡ map (λ (x : RankView). x.refusals) w.ranks → HoldsMeaning s w.plan w.first stores refusals
leaves s w sound done stores refusals stores_are refusals_are =
    let slots = slot_means s w sound done in
    rw (stores_are, refusals_are) (record {
      table = stores_are_table s w sound;
      counts = length-map w.ranks (λ (x : RankView). x.refusals) ∙ sound.sizes.0;
      slots = slots;
      whole = whole_by (map (λ (x : RankView). x.refusals) w.ranks) (meaning (matrices s) w.plan.acts (state_of w.first)) (map (λ (x : RankView). x.slots) w.ranks) slots;
    })
