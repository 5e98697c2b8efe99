-- The lines of a column: the ranks of the first column of the grid have them in order.
use Rattle.std.proofs.Common.{◌≡◌, ◌≢◌, ℕ, zero, suc, ◌+◌, ◌-◌, ◌*◌, ◌/◌, ◌%◌, ◌<◌, ◌≤◌, true, false, cond, ⊎_elim, List, [], ◌∷◌, ◌++◌, append-nil, append_assoc, refl, sym, ap, ◌∙◌, arith}
use Rattle.std.specs.Prelude.{Bool, ◌==◌, ◌&&◌, nat_le, nat_lt, flat_map}
use Rattle.std.specs.Int.{div_ceil}
use Rattle.std.specs.List.{range_with_len}
use Rattle.std.proofs.Math.Nat.{zero-div}
use Rattle.std.proofs.lemmas.Bool.{cases_lt}
use Rattle.std.proofs.lemmas.Bool.Decides.{nat_tests}
use Rattle.cb_semirings.specs.Arithmetic.{Arithmetic, IsSemiring}
use Rattle.cb_matrix.specs.declared.Entry.{Entry}
use Rattle.cb_matrix.specs.Sparse.{Extent, Sparse, IsMatrix, at}
use Rattle.cb_matrix.specs.Values.{column_of, columns_of}
use Rattle.cb_matrix.specs.Operations.{is_covered, placed}
use Rattle.cb_matrix.proofs.Equal.{matrix_is}
use Rattle.cb_grid.specs.Parts.{part_length, part_shape, part_start}
use Rattle.cb_grid.specs.Blocks.{block_of, part_with}
use Rattle.cb_grid.proofs.Parts.{column_of_rank, own_part, place_below, row_of_rank}
use Rattle.cb_market_pages.specs.Text.{vertex_line, vertex_text_of}
use Rattle.cb_plan_operations.proofs.ResultBlocks.{at-block}
use Rattle.cb_plan_parts.proofs.PartStarts.{start_last, start_rises, start_within, start_zero}
use Rattle.cb_plan_slots.specs.Slots.{block_of_rank}
use Rattle.cb_rank_process.specs.VertexNumbers.{AreVertexParts, corner_of, vertex_part}
use Rattle.cb_rank_process.proofs.TextOrder.{column_none, flat_flat, flat_same}

-- ---- one column, row by row
module _ (z : ℕ) (f g : ℕ → ℕ → ℕ) (j : ℕ) where
  -- the entry of a row, if its value isn't z
  abbrev entry_at : (ℕ → ℕ → ℕ) → ℕ → List Entry
  entry_at h i = cond (h i j == z) [] (record { row = i; column = j; value = h i j } ∷ [])

  next_row : (h : ℕ → ℕ → ℕ) (a d : ℕ) → column_of z h j (a + suc d) ≡ column_of z h j (a + d) ++ entry_at h (a + d)
  unfolding column_of
  next_row h a d = let e : a + suc d ≡ suc (a + d) = omega arith in ap (column_of z h j) e

  -- rows from a on, where two functions agree, are appended
  rows_appended : (a d : ℕ) → ((i : ℕ) → a ≤ i → i < a + d → g i j ≡ f i j) → column_of z g j a ≡ [] → column_of z f j (a + d) ≡ column_of z f j a ++ column_of z g j (a + d)
  rows_appended a zero same none =
      let e : a + zero ≡ a = omega arith in
      ap (column_of z f j) e ∙ sym (append-nil (column_of z f j a)) ∙ ap (λ l. column_of z f j a ++ l) (sym (ap (column_of z g j) e ∙ none))
  rows_appended a (suc d) same none =
      let here : g (a + d) j ≡ f (a + d) j = same (a + d) (omega arith) (omega arith) in
      next_row f a d
      ∙ ap (λ l. l ++ entry_at f (a + d)) (rows_appended a d (λ i l m. same i l (omega arith)) none)
      ∙ append_assoc (column_of z f j a) (column_of z g j (a + d)) (entry_at f (a + d))
      ∙ ap (λ v. column_of z f j a ++ (column_of z g j (a + d) ++ cond (v == z) [] (record { row = a + d; column = j; value = v } ∷ []))) (sym here)
      ∙ ap (λ l. column_of z f j a ++ l) (sym (next_row g a d))

  -- rows without values add nothing
  rows_without : (b d : ℕ) → ((i : ℕ) → b ≤ i → i < b + d → g i j ≡ z) → column_of z g j (b + d) ≡ column_of z g j b
  rows_without b zero none = let e : b + zero ≡ b = omega arith in ap (column_of z g j) e
  rows_without b (suc d) none =
      let t : (g (b + d) j == z) ≡ true = (let e = none (b + d) (omega arith) (omega arith) in grind (arith, nat_tests)) in
      next_row g b d
      ∙ ap (λ (t : Bool). column_of z g j (b + d) ++ cond t [] (record { row = b + d; column = j; value = g (b + d) j } ∷ [])) t
      ∙ append-nil (column_of z g j (b + d))
      ∙ rows_without b d (λ i l m. none i l (omega arith))

  -- a function with the values of the rows from a to b has their entries
  rows_between : (a b n : ℕ) → a ≤ b → b ≤ n → ((i : ℕ) → a ≤ i → i < b → g i j ≡ f i j) → ((i : ℕ) → i < a → g i j ≡ z) → ((i : ℕ) → b ≤ i → i < n → g i j ≡ z) → column_of z f j b ≡ column_of z f j a ++ column_of z g j n
  rows_between a b n up inside same before after =
      let d : a + (b - a) ≡ b = omega arith in
      let e : b + (n - b) ≡ n = omega arith in
      ap (column_of z f j) (sym d)
      ∙ rows_appended a (b - a) (λ i l m. same i l (omega arith)) (column_none z 0 g j a before)
      ∙ ap (λ k. column_of z f j a ++ column_of z g j k) d
      ∙ ap (λ l. column_of z f j a ++ l) (sym (rows_without b (n - b) (λ i l m. after i l (omega arith))) ∙ ap (column_of z g j) e)

-- lists, each of which continues those before it, are joined
joined : {X : Type 0} (whole : ℕ → List X) (parts : ℕ → List X) → ((i : ℕ) → whole (i + 1) ≡ whole i ++ parts i) → (a n : ℕ) → whole (a + n) ≡ whole a ++ flat_map parts (range_with_len a n)
joined whole parts more a zero = let e : a + zero ≡ a = omega arith in ap whole e ∙ sym (append-nil (whole a))
joined whole parts more a (suc n) =
    let e : a + suc n ≡ (a + 1) + n = omega arith in
    ap whole e
    ∙ joined whole parts more (a + 1) n
    ∙ ap (λ l. l ++ flat_map parts (range_with_len (a + 1) n)) (more a)
    ∙ append_assoc (whole a) (parts a) (flat_map parts (range_with_len (a + 1) n))

-- ---- the blocks of a column
module _ (s : Arithmetic) (laws : IsSemiring s) (q : ℕ) (some : 0 < q) (m : Sparse) (is : IsMatrix s m) (one : m.shape.cols ≡ 1) where
  abbrev n : ℕ
  n = m.shape.rows

  -- the entries of the first rows
  abbrev first_rows : ℕ → List Entry
  first_rows k = column_of s.zero (at s m) 0 k

  -- the block of rank (i, j), in its place
  abbrev placed_block : ℕ → ℕ → Sparse
  placed_block i j = placed s m.shape (part_start q n i, part_start q m.shape.cols j) (block_of s q m i j)

  -- its value at a row
  abbrev value : ℕ → ℕ → ℕ → ℕ → ℕ
  value i j x y = cond (is_covered (part_start q n i, part_start q m.shape.cols j) (part_shape q m.shape i j) x y) (at s (block_of s q m i j) (x - part_start q n i) (y - part_start q m.shape.cols j)) s.zero

  all_rows : m.entries ≡ first_rows n
  unfolding columns_of
  all_rows =
      ap (λ (d : Sparse). d.entries) (matrix_is s laws m m.shape (at s m) is refl (λ _ _ _ _. refl))
      ∙ ap (columns_of s.zero (at s m) n) one

  block_rows : (i j : ℕ) → (placed_block i j).entries ≡ column_of s.zero (value i j) 0 n
  unfolding columns_of
  block_rows i j = ap (columns_of s.zero (value i j) n) one

  left : part_start q m.shape.cols 0 ≡ 0
  left = start_zero q m.shape.cols

  -- the one column is in the first part
  first_part : part_with q m.shape.cols 0 ≡ 0
  first_part = zero-div (div_ceil m.shape.cols q)

  width : 0 < part_length q m.shape.cols 0
  width =
      let h = place_below q m.shape.cols some 0 (omega arith) in
      let e : part_length q m.shape.cols (part_with q m.shape.cols 0) ≡ part_length q m.shape.cols 0 = ap (part_length q m.shape.cols) first_part in
      omega arith

  -- the value of the block of rank (i, 0) in the rows of part i
  value_inside : (i x : ℕ) → part_start q n i ≤ x → x < part_start q n (i + 1) → value i 0 x 0 ≡ at s m x 0
  value_inside i x l k =
      let top = part_start q n i in
      let lft = part_start q m.shape.cols 0 in
      let a = left in
      let b = width in
      let u : is_covered (top, lft) (part_shape q m.shape i 0) x 0 ≡ true = grind (arith, nat_tests) in
      let c : top + (x - top) ≡ x = omega arith in
      let d : lft + (0 - lft) ≡ 0 = omega arith in
      rw u (at-block s q m i 0 (x - top) (0 - lft) (omega arith) (omega arith) ∙ ap (λ r. at s m r (lft + (0 - lft))) c ∙ ap (at s m x) d)

  -- there is none above them
  value_before : (i j x : ℕ) → x < part_start q n i → value i j x 0 ≡ s.zero
  value_before i j x l =
      let u : is_covered (part_start q n i, part_start q m.shape.cols j) (part_shape q m.shape i j) x 0 ≡ false = grind (arith, nat_tests) in
      rw u refl

  -- nor below them
  value_after : (i j x : ℕ) → part_start q n (i + 1) ≤ x → value i j x 0 ≡ s.zero
  value_after i j x l =
      let up = start_rises q n i in
      let u : is_covered (part_start q n i, part_start q m.shape.cols j) (part_shape q m.shape i j) x 0 ≡ false = grind (arith, nat_tests) in
      rw u refl

  -- nor in the block of a rank of another column of the grid
  value_beside : (i j x : ℕ) → j ≢ 0 → value i j x 0 ≡ s.zero
  value_beside i j x other =
      let lft = part_start q m.shape.cols j in
      ⊎_elim
      (λ (l : 0 < lft + part_length q m.shape.cols j). ⊎_elim
      (λ (k : 0 < lft).
      let u : is_covered (part_start q n i, lft) (part_shape q m.shape i j) x 0 ≡ false = grind (arith, nat_tests) in
      rw u refl)
      (λ (k : lft ≤ 0).
      let e : lft + 0 ≡ 0 = omega arith in
      let own : part_with q m.shape.cols (lft + 0) ≡ j = own_part q m.shape.cols some j 0 (omega arith) in
      absurd (other (sym own ∙ ap (part_with q m.shape.cols) e ∙ first_part)))
      (cases_lt 0 lft))
      (λ (l : lft + part_length q m.shape.cols j ≤ 0).
      let u : is_covered (part_start q n i, lft) (part_shape q m.shape i j) x 0 ≡ false = grind (arith, nat_tests) in
      rw u refl)
      (cases_lt 0 (lft + part_length q m.shape.cols j))

  -- the block of rank (i, 0) has the rows of part i
  more_rows : (i : ℕ) → first_rows (part_start q n (i + 1)) ≡ first_rows (part_start q n i) ++ (placed_block i 0).entries
  more_rows i =
      rows_between s.zero (at s m) (value i 0) 0 (part_start q n i) (part_start q n (i + 1)) n (start_rises q n i) (start_within q n (i + 1))
      (λ x l k. value_inside i x l k) (λ x l. value_before i 0 x l) (λ x l _. value_after i 0 x l)
      ∙ ap (λ l. first_rows (part_start q n i) ++ l) (sym (block_rows i 0))

  -- the blocks of the first column of the grid have all rows
  rows_joined : m.entries ≡ flat_map (λ i. (placed_block i 0).entries) (range_with_len 0 q)
  unfolding column_of
  rows_joined =
      let last : part_start q n (0 + q) ≡ n = (let a : 0 + q ≡ q = omega arith in rw a (start_last q n some)) in
      all_rows
      ∙ ap first_rows (sym last)
      ∙ joined (λ i. first_rows (part_start q n i)) (λ i. (placed_block i 0).entries) more_rows 0 q
      ∙ ap (λ k. first_rows k ++ flat_map (λ i. (placed_block i 0).entries) (range_with_len 0 q)) (start_zero q n)

  -- the lines of a rank, by its row and its column
  rank_lines : (r i j : ℕ) → r / q ≡ i → r % q ≡ j → vertex_part s q m r ≡ vertex_text_of (placed_block i j)
  rank_lines r i j e f = λ t. vertex_text_of (placed s m.shape (part_start q n (e t), part_start q m.shape.cols (f t)) (block_of s q m (e t) (f t)))

  first_lines : (i : ℕ) → vertex_part s q m (i * q) ≡ vertex_text_of (placed_block i 0)
  first_lines i =
      let e : i * q + 0 ≡ i * q = omega arith in
      rank_lines (i * q) i 0 (rw e at (row_of_rank q i 0 some)) (rw e at (column_of_rank q i 0 some))

  no_lines : (i j : ℕ) → j ≢ 0 → vertex_text_of (placed_block i j) ≡ []
  unfolding vertex_text_of
  no_lines i j other = ap (flat_map vertex_line) (block_rows i j ∙ column_none s.zero 0 (value i j) 0 n (λ x _. value_beside i j x other))

  lines_joined : flat_map (λ i. vertex_text_of (placed_block i 0)) (range_with_len 0 q) ≡ vertex_text_of m
  unfolding vertex_text_of
  lines_joined = sym (flat_flat vertex_line (λ i. (placed_block i 0).entries) (range_with_len 0 q)) ∙ ap (flat_map vertex_line) (sym rows_joined)

  -- the ranks of the first column of the grid have the lines in order, and the others have none
  pub vertex_parts : AreVertexParts s q m
  vertex_parts = record {
    first = flat_same (λ i. vertex_part s q m (i * q)) (λ i. vertex_text_of (placed_block i 0)) 0 q (λ i _ _. first_lines i) ∙ lines_joined;
    others = λ r other. rank_lines r (r / q) (r % q) refl refl ∙ no_lines (r / q) (r % q) other;
  }
