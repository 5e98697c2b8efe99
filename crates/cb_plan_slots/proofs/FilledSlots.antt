-- A slot of every rank is filled, from the last rank to the first.
use Rattle.std.proofs.Common.{◌≡◌, ℕ, Bool, ◌+◌, ◌-◌, ◌*◌, ◌/◌, ◌%◌, ◌<◌, ◌≤◌, true, false, List, [], length, take, get_or, refl, sym, ap, ◌∙◌, arith}
use Rattle.std.specs.Prelude.{◌==◌, ◌&&◌, nat_le, if◌then◌else◌, slice_set}
use Rattle.std.proofs.lemmas.Bool.Decides.{nat_tests}
use Rattle.std.proofs.lemmas.List.{get_or-take}
use Rattle.cb_matrix.specs.Sparse.{Sparse}
use Rattle.cb_matrix.specs.Values.{empty_matrix}
use Rattle.cb_semirings.specs.Arithmetic.{Arithmetic}
use Rattle.cb_grid.specs.Blocks.{block_at, block_of}
use Rattle.cb_grid.proofs.Parts.{rank_of, row_below}
use Rattle.std.proofs.lemmas.Nat.{mod_below}
use Rattle.cb_plan.specs.declared.stores.Slot.{Slot}
use Rattle.cb_plan.specs.declared.stores.Slot.TheVariants as slot_is
use Rattle.cb_plan.specs.PlanTables.{cell, cell_set, IsTable}
use Rattle.cb_plan.proofs.Cells.{set_is_table, cell_after_set}
use Rattle.cb_plan.proofs.Effects.{split}
use Rattle.cb_plan.proofs.ActOnStores.{read_at}
use Rattle.cb_plan_slots.specs.Slots.{Filled, block_of_rank}

-- the blocks that are left are the first ones; the ranks after them have theirs
pub record FilledSoFar (n ranks : ℕ) (all rest : List Sparse) (first now : List (List (Slot Sparse))) : Type 0 where
  pub rest_are : (k : ℕ) → k < length rest → block_at rest k ≡ block_at all k
  pub few : length rest ≤ length all
  pub table : IsTable ranks 256 now
  pub cells : (r k : ℕ) → r < ranks → cell slot_is.Empty now r k ≡ (if (n == k) && nat_le (length rest) r then slot_is.Sheet (block_at all r) else cell slot_is.Empty first r k)

and_false : (b : Bool) → (b && false) ≡ false
and_false true = refl
and_false false = refl

next_cell : (n ranks r : ℕ) (all rest left : List Sparse) (first now : List (List (Slot Sparse))) (b : Sparse) → FilledSoFar n ranks all rest first now → length left ≡ r → r + 1 ≡ length rest → b ≡ block_at all r → (q k : ℕ) → q < ranks →
    (if r == q && n == k then slot_is.Sheet b else cell slot_is.Empty now q k) ≡ (if (n == k) && nat_le (length left) q then slot_is.Sheet (block_at all q) else cell slot_is.Empty first q k)
next_cell n ranks r all rest left first now b h at_r fewer own q k l =
    let there = h.cells q k l in
    split (n == k)
    (λ t. split (r == q)
    (λ u.
    let e : r ≡ q = grind (arith, nat_tests) in
    let m : nat_le (length left) q ≡ true = grind (arith, nat_tests) in
    rw (t, u, m) (ap slot_is.Sheet (own ∙ ap (block_at all) e)))
    (λ u.
    let same : nat_le (length rest) q ≡ nat_le (length left) q = grind (arith, nat_tests) in
    rw u (there ∙ rw same refl)))
    (λ t.
    let none : (r == q && n == k) ≡ false = rw t (and_false (r == q)) in
    rw none (there ∙ rw t refl))

-- the last block that is left goes to its rank
pub filling_next : (n ranks r : ℕ) (all rest left : List Sparse) (first now : List (List (Slot Sparse))) (b : Sparse) (row new : List (Slot Sparse)) → n < 256 → length all ≡ ranks → FilledSoFar n ranks all rest first now →
    length left ≡ r → r + 1 ≡ length rest → left ≡ take (length rest - 1) rest → b ≡ block_at rest (length rest - 1) → row ≡ get_or now r row → new ≡ slice_set row n (slot_is.Sheet b) →
    FilledSoFar n ranks all left first (slice_set now r new)
filling_next n ranks r all rest left first now b row new small count h at_r fewer shorter last at_row is_new =
    let below : r < ranks = let f = h.few in omega arith in
    let inside : r < length now = let e = h.table.rows in omega arith in
    let x : Slot Sparse = slot_is.Sheet b in
    let before : length rest - 1 ≡ r = omega arith in
    let own : b ≡ block_at all r = last ∙ ap (block_at rest) before ∙ h.rest_are r (omega arith) in
    let is_set : slice_set now r new ≡ cell_set now r n x = ap (slice_set now r) (is_new ∙ ap (λ s. slice_set s n x) (read_at now r row [] inside at_row)) in
    rw is_set (record {
      rest_are = λ k l. ap (λ xs. block_at xs k) shorter ∙ get_or-take (length rest - 1) rest k (empty_matrix (record { rows = 0; cols = 0 })) (omega arith) ∙ h.rest_are k (omega arith);
      few = let f = h.few in omega arith;
      table = set_is_table ranks 256 now r n x h.table below;
      cells = λ q k l. cell_after_set slot_is.Empty ranks 256 now r n x h.table below small q k ∙ next_cell n ranks r all rest left first now b h at_r fewer own q k l;
    })

-- the blocks named in another way
pub filled_with : (ranks n : ℕ) (f g : ℕ → Sparse) (old new : List (List (Slot Sparse))) → ((r : ℕ) → r < ranks → f r ≡ g r) → Filled ranks n f old new → Filled ranks n g old new
filled_with ranks n f g old new same h = record {
  table = h.table;
  cells = λ r k l. h.cells r k l ∙ ap (λ b. if n == k then slot_is.Sheet b else cell slot_is.Empty old r k) (same r l);
}

-- each rank has a row and a column
pub of_ranks : (s : Arithmetic) (q : ℕ) (m : Sparse) (blocks : List Sparse) → ((i j : ℕ) → i < q → j < q → block_at blocks (i * q + j) ≡ block_of s q m i j) → (r : ℕ) → r < q * q → block_at blocks r ≡ block_of_rank s q m r
of_ranks s q m blocks h r l =
    let row = row_below q r l in
    ap (block_at blocks) (sym (rank_of q r)) ∙ h (r / q) (r % q) row (mod_below r q (omega arith))
