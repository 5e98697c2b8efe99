-- A world in which nothing is done agrees with its plan and its first stores.
use Rattle.std.proofs.Common.{◌≡◌, ◌≢◌, ℕ, ◌<◌, ◌≤◌, ◌^◌, false, List, [], refl, sym, ◌∙◌, ap, subst, arith, inl, inr}
use Rattle.std.specs.Prelude.{nat_lt, get_or}
use Rattle.std.proofs.lemmas.Bool.Decides.{nat_tests}
use Rattle.std.proofs.lemmas.List.{get_or_past}
use Rattle.cb_semirings.specs.Arithmetic.{Arithmetic}
use Rattle.cb_letters.specs.Lane.{Lane, IsLane, new_lane}
use Rattle.cb_letters.proofs.LaneLetters.{IsLane-new}
use Rattle.cb_matrix.specs.Sparse.{Sparse}
use Rattle.cb_plan.specs.declared.stores.Slot.{Slot}
use Rattle.cb_plan.specs.declared.stores.Slot.TheVariants as slot_is
use Rattle.cb_plan.specs.Algebras.{matrices}
use Rattle.cb_plan.specs.Plans.{CheckedView, IsChecked}
use Rattle.cb_plan.specs.Stores.{Fits, state_of, sheet_of, is_lost}
use Rattle.cb_plan.specs.PlanTables.{cell}
use Rattle.cb_rank.specs.Agreement.{IsSlotOf, LaneAgrees}
use Rattle.cb_rank.specs.Halves.{slot_at}
use Rattle.cb_rank.specs.Ranks.{RankView, IsRank}
use Rattle.cb_plan.proofs.Effects.{split}
use Rattle.cb_rank.proofs.OwnActs.{meaning-before_next, letters-before_next}
use Rattle.cb_rank.proofs.RankAfterHalf.{starts_as, fits_at}
use Rattle.cb_mailbox.specs.Inbox.{Inbox, lane_from}
use Rattle.cb_rank_world.specs.Ends.{box_in}
use Rattle.cb_rank_world.specs.Worlds.{WorldView, IsWorld, IsNewWorld, no_rank, rank_of, lane_between, system_of}

whole_slot : (refs : ℕ → ℕ) (x : Slot Sparse) → is_lost x ≡ false → IsSlotOf refs (sheet_of x) x
whole_slot refs slot_is.Empty e = refl
whole_slot refs (slot_is.Sheet m) e = refl
whole_slot refs (slot_is.Lost o) e = cc

new_agrees : (refs : ℕ → ℕ) (f t c : ℕ) (l : Lane Sparse) → l ≡ new_lane c → LaneAgrees [] [] refs f t l
new_agrees refs f t c l e = subst (λ l. LaneAgrees [] [] refs f t l) (sym e) (record { counted = refl; marked = refl; waits = ([], refl, tt) })

module _ (s : Arithmetic) (p : CheckedView) (stores : List (List (Slot Sparse))) (c : ℕ) (w : WorldView) (fits : Fits p.ranks p.starts stores) (fresh : IsNewWorld p stores c w) where
  none_there : (r : ℕ) → p.ranks ≤ r → rank_of w r ≡ no_rank
  none_there r past = let size = fresh.sizes.0 in get_or_past w.ranks r no_rank (omega arith)

  none_done : (r : ℕ) → (rank_of w r).done ≡ 0
  none_done r =
      split (nat_lt r p.ranks)
      (λ t. ap (λ (x : RankView). x.done) (fresh.ranks r (grind (arith, nat_tests))))
      (λ f. ap (λ (x : RankView). x.done) (none_there r (grind (arith, nat_tests))))

  -- a rank's slots are those of its store, also if the rank doesn't exist: then both are empty
  slots_are : (r n : ℕ) → slot_at (rank_of w r).slots n ≡ cell slot_is.Empty stores r n
  slots_are r n =
      split (nat_lt r p.ranks)
      (λ t. ap (λ (x : RankView). slot_at x.slots n) (fresh.ranks r (grind (arith, nat_tests))))
      (λ f.
      let past : p.ranks ≤ r = grind (arith, nat_tests) in
      let rows = fits.table.rows in
      let none : get_or stores r [] ≡ [] = get_or_past stores r [] (omega arith) in
      ap (λ (x : RankView). slot_at x.slots n) (none_there r past) ∙ ap (λ xs. slot_at xs n) (sym none))

  -- a lane from or to a rank that doesn't exist is new
  lane_is_new : (f t : ℕ) → f ≢ t → (places : ℕ) × (lane_between w f t ≡ new_lane places)
  lane_is_new f t ne =
      let size = fresh.sizes.1 in
      split (nat_lt t p.ranks)
      (λ u.
      let below : t < p.ranks = grind (arith, nat_tests) in
      let lanes = (fresh.boxes t below).1 in
      split (nat_lt f p.ranks)
      (λ v. (c, fresh.lanes f t (grind (arith, nat_tests)) below ne))
      (λ v. let past : p.ranks ≤ f = grind (arith, nat_tests) in (0, get_or_past (box_in w.boxes t).lanes f (new_lane 0) (omega arith))))
      (λ u.
      let past : p.ranks ≤ t = grind (arith, nat_tests) in
      let none : box_in w.boxes t ≡ record { me = t; lanes = [] } = get_or_past w.boxes t (record { me = t; lanes = [] }) (omega arith) in
      (0, ap (λ (b : Inbox Sparse). lane_from b f) none ∙ get_or_past {X = Lane Sparse} [] f (new_lane 0) (omega arith)))

  new_rank_is : IsChecked p → (r : ℕ) → r < p.ranks → ((rank_of w r).plan ≡ p) × ((rank_of w r).me ≡ r) × IsRank (rank_of w r)
  new_rank_is checked r inside =
      let is = fresh.ranks r inside in
      (ap (λ (x : RankView). x.plan) is, ap (λ (x : RankView). x.me) is, subst (λ x. IsRank x) (sym is) (starts_as p r (get_or stores r []) checked inside (fits_at p.ranks p.starts stores r fits inside)))

-- a world in which nothing is done satisfies `IsWorld`
pub begins : (s : Arithmetic) (p : CheckedView) (stores : List (List (Slot Sparse))) (c : ℕ) (w : WorldView) → IsChecked p → Fits p.ranks p.starts stores → p.ranks < 2 ^ 16 → 1 ≤ c → IsNewWorld p stores c w → IsWorld s w
begins s p stores c w checked fits few low fresh =
    let ranks : w.plan.ranks ≡ p.ranks = ap (λ (x : CheckedView). x.ranks) fresh.plan in
    record {
      checked = subst (λ x. IsChecked x) (sym fresh.plan) checked;
      fits = rw (fresh.plan, fresh.first) fits;
      few = rw fresh.plan few;
      capacity = rw fresh.capacity low;
      sizes = rw fresh.plan fresh.sizes;
      ranks = λ r l.
          let it = new_rank_is s p stores c w fits fresh checked r (omega arith) in
          record { plan = it.0 ∙ sym fresh.plan; number = it.1; sound = it.2 };
      boxes = λ t l.
          let below : t < p.ranks = omega arith in
          let it = fresh.boxes t below in
          record {
            number = it.0;
            lanes = it.1 ∙ sym ranks;
            capacity = λ f i ne. ap (λ (x : Lane Sparse). x.capacity) (fresh.lanes f t (omega arith) below ne) ∙ sym fresh.capacity;
            sound = λ f i ne. subst (IsLane f t) (sym (fresh.lanes f t (omega arith) below ne)) (IsLane-new f t c);
          };
      agrees = record {
        ranks = λ r n.
            let slot : IsSlotOf (system_of w).refusals (state_of stores r n) (cell slot_is.Empty stores r n) = whole_slot (system_of w).refusals (cell slot_is.Empty stores r n) (fits.none_lost r n) in
            rw (none_done s p stores c w fits fresh r, slots_are s p stores c w fits fresh r n, fresh.first, meaning-before_next (matrices s) w.plan.acts r (state_of stores) n) slot;
        lanes = λ f t ne.
            let l = lane_is_new s p stores c w fits fresh f t ne in
            rw (none_done s p stores c w fits fresh f, none_done s p stores c w fits fresh t, letters-before_next (matrices s) w.plan.acts f f t (state_of w.first) (inl refl), letters-before_next (matrices s) w.plan.acts t f t (state_of w.first) (inr refl))
            (new_agrees (system_of w).refusals f t l.0 (lane_between w f t) l.1);
      };
    }
