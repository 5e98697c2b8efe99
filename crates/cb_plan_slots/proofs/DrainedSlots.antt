-- The blocks of one slot are moved out, rank after rank.
use Rattle.std.proofs.Common.{◌≡◌, ◌≢◌, ℕ, ◌+◌, ◌-◌, ◌<◌, ◌≤◌, true, false, List, [], ◌∷◌, ◌++◌, length, length-append, get_or, refl, sym, ap, subst, inl, inr, ⊎_elim, ◌∙◌, arith}
use Rattle.std.specs.Prelude.{slice_set, Some, ◌==◌, ◌&&◌, if◌then◌else◌}
use Rattle.std.proofs.lemmas.Bool.Decides.{nat_tests}
use Rattle.std.proofs.lemmas.Bool.{cases_lt}
use Rattle.std.proofs.lemmas.List.{length-set, get_or-set_other, get_or_append_left, get_or-append_right}
use Rattle.cb_matrix.specs.Sparse.{Sparse}
use Rattle.cb_matrix.specs.Values.{empty_matrix}
use Rattle.cb_grid.specs.Blocks.{block_at}
use Rattle.cb_plan.specs.declared.stores.Slot.{Slot}
use Rattle.cb_plan.specs.declared.stores.Slot.TheVariants as slot_is
use Rattle.cb_plan.specs.Stores.{state_of, sheet_of, is_filled}
use Rattle.cb_plan.specs.PlanTables.{IsTable, cell, cell_set}
use Rattle.cb_plan.proofs.Cells.{set_is_table, cell_after_set}
use Rattle.cb_plan.proofs.Effects.{split}
use Rattle.cb_plan.proofs.ActOnStores.{read_at}
use Rattle.cb_plan_slots.specs.Losses.{AreFilled, IsFirstLoss, IsPartlyDrained}

-- the blocks of slot n of the first r ranks are out, and the other ranks and slots are as they were
pub record DrainedSoFar (n r : ℕ) (first now : List (List (Slot Sparse))) (out : List Sparse) : Type 0 where
  pub ranks : length now ≡ length first
  pub count : length out ≡ r
  pub later : (k : ℕ) → r ≤ k → get_or now k [] ≡ get_or first k []
  pub partly : IsPartlyDrained n first now
  pub blocks : (k : ℕ) → k < r → state_of first k n ≡ Some (block_at out k)

-- what is taken is what stood there at first
pub taken : (n r : ℕ) (first now : List (List (Slot Sparse))) (out : List Sparse) (row : List (Slot Sparse)) (x : Slot Sparse) → DrainedSoFar n r first now out → r < length now → row ≡ get_or now r row → x ≡ get_or row n slot_is.Empty →
    cell slot_is.Empty first r n ≡ x
taken n r first now out row x h l at_row is =
    sym (is ∙ ap (λ s. get_or s n slot_is.Empty) (read_at now r row [] l at_row ∙ h.later r (omega arith)))

-- the slot of one rank more is empty
pub emptied : (n r : ℕ) (first now : List (List (Slot Sparse))) (out : List Sparse) (row new : List (Slot Sparse)) → n < 256 → DrainedSoFar n r first now out → r < length now → row ≡ get_or now r row → new ≡ slice_set row n slot_is.Empty →
    IsPartlyDrained n first (slice_set now r new)
emptied n r first now out row new small h l at_row is_new =
    let empty : Slot Sparse = slot_is.Empty in
    let below : r < length first = let e = h.ranks in omega arith in
    let is_set : slice_set now r new ≡ cell_set now r n empty = ap (slice_set now r) (is_new ∙ ap (λ s. slice_set s n empty) (read_at now r row [] l at_row)) in
    let after : (k m : ℕ) → cell slot_is.Empty (slice_set now r new) k m ≡ (if r == k && n == m then empty else cell slot_is.Empty now k m) = λ k m.
    ap (λ t. cell slot_is.Empty t k m) is_set ∙ cell_after_set slot_is.Empty (length first) 256 now r n empty h.partly.table below small k m in
    let same : (n == n) ≡ true = grind (arith, nat_tests) in
    record {
      table = rw is_set (set_is_table (length first) 256 now r n empty h.partly.table below);
      others = λ k m ne.
          let off : (n == m) ≡ false = grind (arith, nat_tests) in
          after k m ∙ split (r == k) (λ t. rw (t, off) refl) (λ t. rw t refl) ∙ h.partly.others k m ne;
      own = λ k. split (r == k)
          (λ t. inr (after k n ∙ rw (t, same) refl))
          (λ t.
          let kept : cell slot_is.Empty (slice_set now r new) k n ≡ cell slot_is.Empty now k n = after k n ∙ rw t refl in
          ⊎_elim
          (λ (u : cell slot_is.Empty now k n ≡ cell slot_is.Empty first k n). inl (kept ∙ u))
          (λ (u : cell slot_is.Empty now k n ≡ slot_is.Empty). inr (kept ∙ u))
          (h.partly.own k));
    }

-- nothing was moved
pub untouched : (n : ℕ) (first : List (List (Slot Sparse))) → IsTable (length first) 256 first → IsPartlyDrained n first first
untouched n first table = record { table = table; others = λ r k ne. refl; own = λ r. inl refl }

-- the block of one rank more is out
pub draining_next : (n r : ℕ) (first now : List (List (Slot Sparse))) (out : List Sparse) (row new : List (Slot Sparse)) (x : Slot Sparse) (b : Sparse) → n < 256 → DrainedSoFar n r first now out → r < length now → row ≡ get_or now r row → x ≡ get_or row n slot_is.Empty → new ≡ slice_set row n slot_is.Empty → x ≡ slot_is.Sheet b →
    DrainedSoFar n (r + 1) first (slice_set now r new) (out ++ b ∷ [])
draining_next n r first now out row new x b small h l at_row is is_new sheet =
    let none : Sparse = empty_matrix (record { rows = 0; cols = 0 }) in
    record {
      partly = emptied n r first now out row new small h l at_row is_new;
      ranks = length-set now r new ∙ h.ranks;
      count = length-append out (b ∷ []) ∙ ap (λ k. k + 1) h.count;
      later = λ k m. let ne : k ≢ r = omega arith in get_or-set_other now r k new [] ne ∙ h.later k (omega arith);
      blocks = λ k m. ⊎_elim
          (λ (u : k < r). h.blocks k u ∙ ap Some (sym (get_or_append_left out (b ∷ []) none k (omega arith))))
          (λ (u : r ≤ k).
          let e : r ≡ k = omega arith in
          let first_of_rest : k - length out ≡ 0 = omega arith in
          ap (λ i. state_of first i n) (sym e) ∙ ap sheet_of (taken n r first now out row x h l at_row is ∙ sheet)
          ∙ ap Some (sym (get_or-append_right out (b ∷ []) (length out) k none refl (omega arith) ∙ ap (λ i. get_or (b ∷ []) i none) first_of_rest)))
          (cases_lt k r);
    }

-- no slot is found empty
pub never_empty : (n r : ℕ) (first : List (List (Slot Sparse))) (x : Slot Sparse) → AreFilled n first → r < length first → cell slot_is.Empty first r n ≡ x → x ≡ slot_is.Empty → ⊥
never_empty n r first x filled l is empty =
    let there : false ≡ true = subst (λ (y : Slot Sparse). is_filled y ≡ true) (is ∙ empty) (filled r l) in
    cc

-- the first slot that is found lost is the first that is
pub first_loss : (n r origin : ℕ) (first now : List (List (Slot Sparse))) (out : List Sparse) (x : Slot Sparse) → DrainedSoFar n r first now out → r < length first → cell slot_is.Empty first r n ≡ x → x ≡ slot_is.Lost origin → IsFirstLoss n first origin
first_loss n r origin first now out x h l is lost = record {
  rank = r;
  inside = l;
  lost = is ∙ lost;
  least = λ k m. rw (h.blocks k m) refl;
}
