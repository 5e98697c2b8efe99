-- From texts to a text: the pieces of a text give its matrix, and the panels of a matrix, in order, give its entries.
use Rattle.std.proofs.Common.{◌≡◌, ◌≢◌, ℕ, zero, suc, ◌+◌, ◌-◌, ◌*◌, ◌<◌, ◌≤◌, true, false, cond, List, [], ◌∷◌, ◌++◌, length, map, append-nil, length-append, refl, sym, ap, subst, ◌∙◌, arith}
use Rattle.std.specs.Prelude.{All, Bool, Option, Some, None, IfSome, unwrap_or, ◌&&◌, ◌==◌, nat_le, nat_lt, flat_map}
use Rattle.std.specs.List.{range_with_len}
use Rattle.std.proofs.lemmas.Bool.Decides.{nat_tests}
use Rattle.std.proofs.lemmas.List.Elements.{All-nil, All-cons, All-append}
use Rattle.std.proofs.lemmas.List.Concat.{flat_map-append}
use Rattle.cb_semirings.specs.Arithmetic.{Arithmetic, IsValue, IsSemiring, ReadsNumbers, HasNegatives}
use Rattle.cb_matrix.specs.declared.Entry.{Entry}
use Rattle.cb_matrix.specs.Sparse.{Extent, Sparse, IsMatrix, at}
use Rattle.cb_matrix.specs.Values.{collected, column_of, columns_of, matrix_of, total, values_at}
use Rattle.cb_matrix.specs.Operations.{cut, is_covered}
use Rattle.cb_matrix.proofs.Equal.{matrix_is}
use Rattle.cb_matrix.proofs.Made.{at-matrix_of, same_matrix_of}
use Rattle.cb_matrix.proofs.Totals.{total-append, values_at-append, values_at-values}
use Rattle.cb_market_lines.specs.declared.header.Header.{Header}
use Rattle.cb_market_lines.specs.declared.header.Symmetry.{Symmetry}
use Rattle.cb_market_lines.specs.declared.header.Symmetry.TheVariants.{General, Symmetric, SkewSymmetric}
use Rattle.cb_market_lines.specs.declared.size.Size.{Size}
use Rattle.cb_market_lines.specs.Checks.{entry_of, given_by, mirrored, negative_of}
use Rattle.cb_market_lines.specs.Lines.{cut_lines, lines, kept}
use Rattle.cb_market_lines.specs.Reads.{Reads}
use Rattle.cb_market_lines.proofs.Bodies.{entry_value}
use Rattle.cb_market.specs.Gathered.{AreSamePlaces}
use Rattle.cb_market.specs.Pieces.{AreFaultless, given_in, IsOpening, IsPart, MayFollow, Part}
use Rattle.cb_market.proofs.PartedTexts.{faultless_both, kept_followed, part_reads}
use Rattle.cb_grid.specs.Parts.{part_start, part_length}
use Rattle.cb_grid.specs.Pieces.{piece, piece_start}
use Rattle.cb_plan_parts.proofs.PartStarts.{map_below, start_zero, start_rises, start_within, start_last}
use Rattle.cb_plan_transfers.specs.Panels.{panel_of}
use Rattle.cb_plan_transfers.specs.Pieces.{sum_of_pieces}
use Rattle.cb_rank_process.specs.declared.texts.LineCounts.{LineCounts}
use Rattle.cb_rank_process.specs.Texts.{ArePiecesOf, IsPieceOf, counted_lines, panel_entries, texts_from}

-- ---- lists over a range of numbers
-- a range, parted
range_parts : (a n k : ℕ) → range_with_len a (n + k) ≡ range_with_len a n ++ range_with_len (a + n) k
range_parts a zero k =
    let d : 0 + k ≡ k = omega arith in
    let e : a ≡ a + 0 = omega arith in
    ap (range_with_len a) d ∙ ap (λ b. range_with_len b k) e
range_parts a (suc n) k =
    let d : suc n + k ≡ suc (n + k) = omega arith in
    let e : (a + 1) + n ≡ a + suc n = omega arith in
    ap (range_with_len a) d ∙ ap (λ l. a ∷ l) (range_parts (a + 1) n k ∙ ap (λ b. range_with_len (a + 1) n ++ range_with_len b k) e)

-- ranges, each of which begins where the one before it ends, are one
module _ (start : ℕ → ℕ) (rises : (i : ℕ) → start i ≤ start (i + 1)) where
  rises_far : (a n : ℕ) → start a ≤ start (a + n)
  rises_far a zero = let e : a + zero ≡ a = omega arith in rw e (omega arith)
  rises_far a (suc n) =
      let e : (a + 1) + n ≡ a + suc n = omega arith in
      let one = rises a in
      let rest = rises_far (a + 1) n in
      rw (sym e) (omega arith)

  ranges_joined : (a n : ℕ) → flat_map (λ t. range_with_len (start t) (start (t + 1) - start t)) (range_with_len a n) ≡ range_with_len (start a) (start (a + n) - start a)
  ranges_joined a zero =
      let f : a + zero ≡ a = omega arith in
      let e : start a - start a ≡ 0 = omega arith in
      sym (ap (λ b. range_with_len (start a) (start b - start a)) f ∙ ap (range_with_len (start a)) e)
  ranges_joined a (suc n) =
      let e : (a + 1) + n ≡ a + suc n = omega arith in
      let one = rises a in
      let rest = rises_far (a + 1) n in
      let f : start a + (start (a + 1) - start a) ≡ start (a + 1) = omega arith in
      let g : (start (a + 1) - start a) + (start ((a + 1) + n) - start (a + 1)) ≡ start ((a + 1) + n) - start a = omega arith in
      ap (λ l. range_with_len (start a) (start (a + 1) - start a) ++ l) (ranges_joined (a + 1) n)
      ∙ ap (λ b. range_with_len (start a) (start (a + 1) - start a) ++ range_with_len b (start ((a + 1) + n) - start (a + 1))) (sym f)
      ∙ sym (range_parts (start a) (start (a + 1) - start a) (start ((a + 1) + n) - start (a + 1)))
      ∙ ap (range_with_len (start a)) g
      ∙ ap (λ b. range_with_len (start a) (start b - start a)) e

module _ {X : Type 0} where
  -- lists along a range that are equal there
  pub flat_same : (f g : ℕ → List X) (a n : ℕ) → ((k : ℕ) → a ≤ k → k < a + n → f k ≡ g k) → flat_map f (range_with_len a n) ≡ flat_map g (range_with_len a n)
  flat_same f g a zero h = refl
  flat_same f g a (suc n) h = ap (λ l. l ++ flat_map f (range_with_len (a + 1) n)) (h a (omega arith) (omega arith)) ∙ ap (λ l. g a ++ l) (flat_same f g (a + 1) n (λ k l b. h k (omega arith) (omega arith)))

  -- or empty
  flat_none : (f : ℕ → List X) (a n : ℕ) → ((k : ℕ) → a ≤ k → k < a + n → f k ≡ []) → flat_map f (range_with_len a n) ≡ []
  flat_none f a zero h = refl
  flat_none f a (suc n) h = ap (λ l. l ++ flat_map f (range_with_len (a + 1) n)) (h a (omega arith) (omega arith)) ∙ flat_none f (a + 1) n (λ k l b. h k (omega arith) (omega arith))

  -- lists of lists, joined at once or one after another
  pub flat_flat : {A B : Type 0} (f : B → List X) (g : A → List B) (xs : List A) → flat_map f (flat_map g xs) ≡ flat_map (λ x. flat_map f (g x)) xs
  flat_flat f g [] = refl
  flat_flat f g (x ∷ xs) = flat_map-append f (g x) (flat_map g xs) ∙ ap (λ l. flat_map f (g x) ++ l) (flat_flat f g xs)

  flat_of_map : {A : Type 0} (f : A → List X) (xs : List A) → flat_map (λ part. part) (map f xs) ≡ flat_map f xs
  flat_of_map f [] = refl
  flat_of_map f (x ∷ xs) = ap (λ l. f x ++ l) (flat_of_map f xs)

-- ---- the columns of a function
module _ (z : ℕ) (rows : ℕ) where
  column_same : (f g : ℕ → ℕ → ℕ) (j m : ℕ) → ((i : ℕ) → i < m → f i j ≡ g i j) → column_of z f j m ≡ column_of z g j m
  unfolding column_of
  column_same f g j zero h = refl
  column_same f g j (suc i) h =
      ap (λ l. l ++ cond (f i j == z) [] (record { row = i; column = j; value = f i j } ∷ [])) (column_same f g j i (λ k l. h k (omega arith)))
      ∙ ap (λ v. column_of z g j i ++ cond (v == z) [] (record { row = i; column = j; value = v } ∷ [])) (h i (omega arith))

  -- a column of zeros has no entries
  pub column_none : (f : ℕ → ℕ → ℕ) (j m : ℕ) → ((i : ℕ) → i < m → f i j ≡ z) → column_of z f j m ≡ []
  unfolding column_of
  column_none f j zero h = refl
  column_none f j (suc i) h =
      let t : (f i j == z) ≡ true = (let e = h i (omega arith) in grind (arith, nat_tests)) in
      ap (λ l. l ++ cond (f i j == z) [] (record { row = i; column = j; value = f i j } ∷ [])) (column_none f j i (λ k l. h k (omega arith)))
      ∙ ap (λ b. cond b [] (record { row = i; column = j; value = f i j } ∷ [])) t

  columns_listed : (f : ℕ → ℕ → ℕ) (n : ℕ) → columns_of z f rows n ≡ flat_map (λ j. column_of z f j rows) (range_with_len 0 n)
  unfolding columns_of
  columns_listed f zero = refl
  columns_listed f (suc n) =
      let e : n + 1 ≡ suc n = omega arith in
      let c : n ≡ 0 + n = omega arith in
      ap (λ l. l ++ column_of z f n rows) (columns_listed f n)
      ∙ ap (λ l. flat_map (λ j. column_of z f j rows) (range_with_len 0 n) ++ l) (sym (append-nil (column_of z f n rows)))
      ∙ sym (flat_map-append (λ j. column_of z f j rows) (range_with_len 0 n) (n ∷ []))
      ∙ ap (flat_map (λ j. column_of z f j rows)) (ap (λ b. range_with_len 0 n ++ b ∷ []) c ∙ sym (range_parts 0 n 1) ∙ ap (range_with_len 0) e)

  -- a function that is zero outside a range of columns has the columns of the range
  columns_between : (f g : ℕ → ℕ → ℕ) (left right cols : ℕ) → left ≤ right → right ≤ cols → ((i j : ℕ) → i < rows → left ≤ j → j < right → g i j ≡ f i j) → ((i j : ℕ) → i < rows → j < left → g i j ≡ z) → ((i j : ℕ) → i < rows → right ≤ j → g i j ≡ z)
      → columns_of z g rows cols ≡ flat_map (λ j. column_of z f j rows) (range_with_len left (right - left))
  columns_between f g left right cols up inside same before after =
      let col = λ (j : ℕ). column_of z g j rows in
      let e : left + ((right - left) + (cols - right)) ≡ cols = omega arith in
      let d : left + (right - left) ≡ right = omega arith in
      let c : 0 + left ≡ left = omega arith in
      columns_listed g cols
      ∙ ap (λ n. flat_map col (range_with_len 0 n)) (sym e)
      ∙ ap (flat_map col) (range_parts 0 left ((right - left) + (cols - right)) ∙ ap (λ b. range_with_len 0 left ++ range_with_len b ((right - left) + (cols - right))) c ∙ ap (λ l. range_with_len 0 left ++ l) (range_parts left (right - left) (cols - right)))
      ∙ flat_map-append col (range_with_len 0 left) (range_with_len left (right - left) ++ range_with_len (left + (right - left)) (cols - right))
      ∙ ap (λ l. l ++ flat_map col (range_with_len left (right - left) ++ range_with_len (left + (right - left)) (cols - right))) (flat_none col 0 left (λ k _ b. column_none g k rows (λ i l. before i k l (omega arith))))
      ∙ flat_map-append col (range_with_len left (right - left)) (range_with_len (left + (right - left)) (cols - right))
      ∙ ap (λ l. flat_map col (range_with_len left (right - left)) ++ l) (flat_none col (left + (right - left)) (cols - right) (λ k b _. column_none g k rows (λ i l. after i k l (omega arith))))
      ∙ append-nil (flat_map col (range_with_len left (right - left)))
      ∙ flat_same col (λ j. column_of z f j rows) left (right - left) (λ k a b. column_same g f k rows (λ i l. same i k l a (omega arith)))

-- ---- panels
module _ (s : Arithmetic) (laws : IsSemiring s) (q : ℕ) (some : 0 < q) (m : Sparse) (is : IsMatrix s m) where
  abbrev width : ℕ → ℕ
  width j = part_length q m.shape.cols j

  -- the entries of column j
  abbrev column : ℕ → List Entry
  column j = column_of s.zero (at s m) j m.shape.rows

  -- a panel has the entries of its columns
  panel_columns : (i j : ℕ) → (panel_of s q m i j).entries ≡ flat_map column (range_with_len (piece_start q m.shape.cols j i) (piece_start q m.shape.cols j (i + 1) - piece_start q m.shape.cols j i))
  panel_columns i j =
      let left = piece_start q m.shape.cols j i in
      let right = piece_start q m.shape.cols j (i + 1) in
      let whole = cut s (0, m.shape.rows) (piece q m.shape.cols j i) m in
      let up = start_rises q (width j) i in
      let inside = start_within q (width j) (i + 1) in
      let within = start_within q m.shape.cols (j + 1) in
      let rises = start_rises q m.shape.cols j in
      columns_between s.zero m.shape.rows (at s m) (λ x y. cond (is_covered (0, left) whole.shape x y) (at s whole (x - 0) (y - left)) s.zero) left right m.shape.cols (omega arith) (omega arith)
      (λ x y l a b.
      let u : is_covered (0, left) whole.shape x y ≡ true = grind (arith, nat_tests) in
      let c : 0 + (x - 0) ≡ x = omega arith in
      let d : left + (y - left) ≡ y = omega arith in
      rw u (at-matrix_of s whole.shape (λ x y. at s m (0 + x) (left + y)) (x - 0) (y - left) (omega arith) (omega arith) ∙ ap (λ r. at s m r (left + (y - left))) c ∙ ap (at s m x) d))
      (λ x y l b.
      let u : is_covered (0, left) whole.shape x y ≡ false = grind (arith, nat_tests) in
      rw u refl)
      (λ x y l a.
      let u : is_covered (0, left) whole.shape x y ≡ false = grind (arith, nat_tests) in
      rw u refl)

  -- the columns of the panels of column j of the grid
  abbrev panel_range : ℕ → ℕ → List ℕ
  panel_range j i = range_with_len (piece_start q m.shape.cols j i) (piece_start q m.shape.cols j (i + 1) - piece_start q m.shape.cols j i)

  columns_of_part : (j : ℕ) → flat_map (panel_range j) (range_with_len 0 q) ≡ range_with_len (part_start q m.shape.cols j) (part_start q m.shape.cols (j + 1) - part_start q m.shape.cols j)
  columns_of_part j =
      let first : piece_start q m.shape.cols j 0 ≡ part_start q m.shape.cols j = (let e = start_zero q (width j) in omega arith) in
      let last : piece_start q m.shape.cols j (0 + q) ≡ part_start q m.shape.cols (j + 1) = (let e = start_last q (width j) some in let r = start_rises q m.shape.cols j in let a : 0 + q ≡ q = omega arith in rw a (omega arith)) in
      ranges_joined (piece_start q m.shape.cols j) (λ i. let r = start_rises q (width j) i in omega arith) 0 q
      ∙ ap (λ b. range_with_len (piece_start q m.shape.cols j 0) (b - piece_start q m.shape.cols j 0)) last
      ∙ ap (λ a. range_with_len a (part_start q m.shape.cols (j + 1) - a)) first

  columns_of_panels : flat_map (λ j. flat_map (panel_range j) (range_with_len 0 q)) (range_with_len 0 q) ≡ range_with_len 0 m.shape.cols
  columns_of_panels =
      let first = start_zero q m.shape.cols in
      let last : part_start q m.shape.cols (0 + q) ≡ m.shape.cols = (let a : 0 + q ≡ q = omega arith in rw a (start_last q m.shape.cols some)) in
      let e : m.shape.cols - 0 ≡ m.shape.cols = omega arith in
      flat_same (λ j. flat_map (panel_range j) (range_with_len 0 q)) (λ j. range_with_len (part_start q m.shape.cols j) (part_start q m.shape.cols (j + 1) - part_start q m.shape.cols j)) 0 q (λ j _ _. columns_of_part j)
      ∙ ranges_joined (part_start q m.shape.cols) (start_rises q m.shape.cols) 0 q
      ∙ ap (λ b. range_with_len (part_start q m.shape.cols 0) (b - part_start q m.shape.cols 0)) last
      ∙ ap (λ a. range_with_len a (m.shape.cols - a)) first
      ∙ ap (range_with_len 0) e

  -- the panels of column j of the grid have the entries of their columns
  panels_of_part : (j : ℕ) → flat_map (λ part. part) (map (λ i. (panel_of s q m i j).entries) (range_with_len 0 q)) ≡ flat_map column (flat_map (panel_range j) (range_with_len 0 q))
  panels_of_part j =
      flat_of_map (λ i. (panel_of s q m i j).entries) (range_with_len 0 q)
      ∙ flat_same (λ i. (panel_of s q m i j).entries) (λ i. flat_map column (panel_range j i)) 0 q (λ i _ _. panel_columns i j)
      ∙ sym (flat_flat column (panel_range j) (range_with_len 0 q))

  -- the entries of the panels of a matrix, by column of the grid, and in it by row, are the matrix's entries in order
  pub panels_in_order : flat_map (λ part. part) (panel_entries s q m) ≡ m.entries
  panels_in_order =
      flat_flat (λ part. part) (λ j. map (λ i. (panel_of s q m i j).entries) (range_with_len 0 q)) (range_with_len 0 q)
      ∙ flat_same (λ j. flat_map (λ part. part) (map (λ i. (panel_of s q m i j).entries) (range_with_len 0 q))) (λ j. flat_map column (flat_map (panel_range j) (range_with_len 0 q))) 0 q (λ j _ _. panels_of_part j)
      ∙ sym (flat_flat column (λ j. flat_map (panel_range j) (range_with_len 0 q)) (range_with_len 0 q))
      ∙ ap (flat_map column) columns_of_panels
      ∙ sym (columns_listed s.zero m.shape.rows (at s m) m.shape.cols)
      ∙ sym (ap (λ (d : Sparse). d.entries) (matrix_is s laws m m.shape (at s m) is refl (λ _ _ _ _. refl)))

-- ---- pieces
module _ (s : Arithmetic) (laws : IsSemiring s) (shape : Extent) (parts : ℕ → List Entry) where
  abbrev AreValues : List Entry → Type 0
  AreValues es = All (λ e. IsValue s e.value) es

  values_all : (a n : ℕ) → ((r : ℕ) → a ≤ r → r < a + n → AreValues (parts r)) → AreValues (flat_map parts (range_with_len a n))
  values_all a zero h = All-nil (λ (e : Entry). IsValue s e.value)
  values_all a (suc n) h = All-append (λ (e : Entry). IsValue s e.value) (parts a) (flat_map parts (range_with_len (a + 1) n)) (h a (omega arith) (omega arith)) (values_all (a + 1) n (λ r l b. h r (omega arith) (omega arith)))

  totals : (i j : ℕ) → i < shape.rows → j < shape.cols → (a n : ℕ) → ((r : ℕ) → a ≤ r → r < a + n → AreValues (parts r))
      → total s (map (λ r. at s (collected s shape (parts r)) i j) (range_with_len a n)) ≡ total s (values_at (flat_map parts (range_with_len a n)) i j)
  unfolding total
  totals i j l k a zero h = refl
  totals i j l k a (suc n) h =
      let rest = flat_map parts (range_with_len (a + 1) n) in
      let here = h a (omega arith) (omega arith) in
      let later : (r : ℕ) → a + 1 ≤ r → r < (a + 1) + n → AreValues (parts r) = λ r c b. h r (omega arith) (omega arith) in
      ap (λ x. s.add x (total s (map (λ r. at s (collected s shape (parts r)) i j) (range_with_len (a + 1) n)))) (at-matrix_of s shape (λ i j. total s (values_at (parts a) i j)) i j l k)
      ∙ ap (s.add (total s (values_at (parts a) i j))) (totals i j l k (a + 1) n later)
      ∙ sym (total-append s laws (values_at (parts a) i j) (values_at rest i j) (values_at-values s laws (parts a) i j here) (values_at-values s laws rest i j (values_all (a + 1) n later)))
      ∙ ap (total s) (sym (values_at-append (parts a) rest i j))

  -- the sum of pieces, each of which is the matrix of some entries, is the matrix of all these entries
  pub sum_of_collected : (n : ℕ) → ((r : ℕ) → r < n → AreValues (parts r)) → sum_of_pieces s n shape (λ r. collected s shape (parts r)) ≡ collected s shape (flat_map parts (range_with_len 0 n))
  sum_of_collected n h =
      same_matrix_of s shape (λ i j. total s (map (λ r. at s (collected s shape (parts r)) i j) (range_with_len 0 n))) (λ i j. total s (values_at (flat_map parts (range_with_len 0 n)) i j))
      (λ i j l k. totals i j l k 0 n (λ r _ b. h r (omega arith)))

-- ---- pieces of a text
-- a block has what the lines of a text give, after this header
record IsReadAs (s : Arithmetic) (header : Header) (shape : Extent) (text : List ℕ) (block : Sparse) (counts : LineCounts) : Type 0 where
  part : Part
  part_is : IsPart s header shape 1 text part
  block_is : block ≡ collected s shape part.entries
  lines : counts.lines ≡ part.lines

module _ (s : Arithmetic) (laws : IsSemiring s) (numbers : ReadsNumbers s) (negatives : HasNegatives s) where
  abbrev HasValue : Entry → Type 0
  HasValue e = IsValue s e.value

  negative_or_zero : (o : Option ℕ) (x : ℕ) → IfSome o (λ y. IsValue s y × (s.add x y ≡ s.zero)) → IsValue s (unwrap_or o s.zero)
  negative_or_zero (Some y) x h = h.0
  negative_or_zero None x h = laws.zero_value

  -- what an entry gives are values
  given_values : (symmetry : Symmetry) (e : Entry) → IsValue s e.value → All HasValue (given_by s symmetry e)
  given_values General e h = All-cons HasValue e [] h (All-nil HasValue)
  given_values Symmetric e h =
      elim (e.row == e.column) as (λ b. All HasValue (cond b (e ∷ []) (e ∷ mirrored e.value e ∷ []))) [
        | true ↦ All-cons HasValue e [] h (All-nil HasValue)
        | false ↦ All-cons HasValue e (mirrored e.value e ∷ []) h (All-cons HasValue (mirrored e.value e) [] h (All-nil HasValue))
      ]
  given_values SkewSymmetric e h =
      let n : IsValue s (negative_of s e.value) = negative_or_zero (s.negative e.value) e.value (negatives.negative_adds e.value h) in
      All-cons HasValue e (mirrored (negative_of s e.value) e ∷ []) h (All-cons HasValue (mirrored (negative_of s e.value) e) [] n (All-nil HasValue))

  -- and so is what lines without a fault give
  lines_values : (header : Header) (shape : Extent) (ls : List (List (List ℕ))) → AreFaultless s header shape ls → All HasValue (given_in s header ls)
  lines_values header shape [] h = All-nil HasValue
  lines_values header shape (ws ∷ ls) h =
      All-append HasValue (given_by s header.symmetry (entry_of s header ws)) (given_in s header ls)
      (given_values header.symmetry (entry_of s header ws) (entry_value s numbers header shape ws h.0)) (lines_values header shape ls h.1)

  -- entries that are the same place by place make the same matrix
  same_collected : (shape : Extent) (es fs : List Entry) → AreSamePlaces es fs → collected s shape es ≡ collected s shape fs
  same_collected shape es fs h = λ t. matrix_of s shape (λ i j. total s (map (λ (e : Entry). e.value) (h i j t)))

  -- equal pieces have the same sum
  same_sum : (shape : Extent) (n : ℕ) (pieces others : ℕ → Sparse) → ((r : ℕ) → r < n → pieces r ≡ others r) → sum_of_pieces s n shape pieces ≡ sum_of_pieces s n shape others
  same_sum shape n pieces others h =
      same_matrix_of s shape (λ i j. total s (map (λ r. at s (pieces r) i j) (range_with_len 0 n))) (λ i j. total s (map (λ r. at s (others r) i j) (range_with_len 0 n)))
      (λ i j _ _. ap (total s) (map_below (λ r. at s (pieces r) i j) (λ r. at s (others r) i j) 0 n (λ r _ b. ap (λ (m : Sparse). at s m i j) (h r (omega arith)))))

  module _ (header : Header) (texts : ℕ → List ℕ) where
    -- what the lines of a piece give
    abbrev given_of : ℕ → List Entry
    given_of r = given_in s header (kept (lines (texts r)))

    module _ (end : ℕ) (goes_on : (r : ℕ) → r < end → MayFollow (texts r) [] (texts_from texts (r + 1) (end - (r + 1)))) where
      -- the lines of a piece, and then those of the pieces after it
      kept_next : (a n : ℕ) → a + suc n ≡ end → kept (lines (texts_from texts a (suc n))) ≡ kept (lines (texts a)) ++ kept (lines (texts_from texts (a + 1) n))
      kept_next a n all =
          let e : end - (a + 1) ≡ n = omega (arith, all) in
          kept_followed (texts a) (texts_from texts (a + 1) n) (subst (λ k. MayFollow (texts a) [] (texts_from texts (a + 1) k)) e (goes_on a (omega (arith, all))))

      -- pieces give what the lines of all of them give
      given_joined : (a n : ℕ) → a + n ≡ end → flat_map given_of (range_with_len a n) ≡ given_in s header (kept (lines (texts_from texts a n)))
      unfolding lines cut_lines
      given_joined a zero all = refl
      given_joined a (suc n) all =
          ap (λ l. given_of a ++ l) (given_joined (a + 1) n (omega (arith, all)))
          ∙ sym (flat_map-append (λ ws. given_by s header.symmetry (entry_of s header ws)) (kept (lines (texts a))) (kept (lines (texts_from texts (a + 1) n))))
          ∙ ap (given_in s header) (sym (kept_next a n all))

      -- no line has a fault if none of a piece has
      none_faulty : (shape : Extent) → ((r : ℕ) → r < end → AreFaultless s header shape (kept (lines (texts r)))) → (a n : ℕ) → a + n ≡ end → AreFaultless s header shape (kept (lines (texts_from texts a n)))
      unfolding lines cut_lines
      none_faulty shape each a zero all = tt
      none_faulty shape each a (suc n) all =
          subst (AreFaultless s header shape) (sym (kept_next a n all))
          (faultless_both s header shape (kept (lines (texts a))) (kept (lines (texts_from texts (a + 1) n))) (each a (omega (arith, all))) (none_faulty shape each (a + 1) n (omega (arith, all))))

      -- as many lines have an entry as have one in the pieces
      lines_counted : (counts : ℕ → LineCounts) → ((r : ℕ) → r < end → (counts r).lines ≡ length (kept (lines (texts r)))) → (a n : ℕ) → a + n ≡ end → counted_lines counts a n ≡ length (kept (lines (texts_from texts a n)))
      unfolding lines cut_lines
      lines_counted counts each a zero all = refl
      lines_counted counts each a (suc n) all =
          let here = each a (omega (arith, all)) in
          let later = lines_counted counts each (a + 1) n (omega (arith, all)) in
          let both = length-append (kept (lines (texts a))) (kept (lines (texts_from texts (a + 1) n))) in
          let whole = ap length (kept_next a n all) in
          omega (arith, here, later, both, whole)

    -- If as many lines have an entry as are announced, the text reads as the sum of the pieces.
    text_of_read : (opening : List ℕ) (size : Size) (line n : ℕ) (pieces : ℕ → Sparse) (counts : ℕ → LineCounts) → IsOpening s opening header size line [] → MayFollow opening [] (texts_from texts 0 n)
        → ((r : ℕ) → r < n → MayFollow (texts r) [] (texts_from texts (r + 1) (n - (r + 1)))) → ((r : ℕ) → r < n → IsReadAs s header size.shape (texts r) (pieces r) (counts r))
        → counted_lines counts 0 n ≡ size.count → Reads s (opening ++ texts_from texts 0 n) (sum_of_pieces s n size.shape pieces)
    text_of_read opening size line n pieces counts is follows goes_on read all =
        let more = texts_from texts 0 n in
        let whole : Part = record { side = 1; shape = size.shape; lines = counted_lines counts 0 n; entries = given_in s header (kept (lines more)) } in
        let is_part : IsPart s header size.shape 1 more whole = record {
          on_grid = refl;
          in_shape = refl;
          faultless = none_faulty n goes_on size.shape (λ r l. (read r l).part_is.faultless) 0 n (omega arith);
          count = lines_counted n goes_on counts (λ r l. (read r l).lines ∙ (read r l).part_is.count) 0 n (omega arith);
          given = λ i j. refl;
        } in
        let sum : sum_of_pieces s n size.shape pieces ≡ collected s size.shape whole.entries =
        same_sum size.shape n pieces (λ r. collected s size.shape (given_of r)) (λ r l. (read r l).block_is ∙ same_collected size.shape (read r l).part.entries (given_of r) (read r l).part_is.given)
        ∙ sum_of_collected s laws size.shape given_of n (λ r l. lines_values header size.shape (kept (lines (texts r))) (read r l).part_is.faultless)
        ∙ ap (collected s size.shape) (given_joined n goes_on 0 n (omega arith)) in
        subst (Reads s (opening ++ more)) (sym sum) (part_reads s opening header size line [] more 1 whole is follows is_part all)

  -- all processes find the same header and the same size in an opening
  read_alike : (opening text : List ℕ) (header : Header) (size : Size) (line : ℕ) (piece : Sparse) (counts : LineCounts) → IsOpening s opening header size line [] → IsPieceOf s opening text piece counts → IsReadAs s header size.shape text piece counts
  read_alike opening text header size line piece counts is read =
      let e : read.header ≡ header = read.opening_is.header_is ∙ sym is.header_is in
      let z : read.size ≡ size = read.opening_is.size_is ∙ sym is.size_is in
      record {
        part = read.part;
        part_is = subst (λ (h : Header). IsPart s h size.shape 1 text read.part) e (subst (λ (z : Size). IsPart s read.header z.shape 1 text read.part) z read.part_is);
        block_is = read.block_is ∙ ap (λ (z : Size). collected s z.shape read.part.entries) z;
        lines = read.lines;
      }

  -- The text that processes read, each its piece, reads as the sum of their pieces.
  pub text_of_pieces : (n : ℕ) (opening : List ℕ) (header : Header) (size : Size) (line : ℕ) (texts : ℕ → List ℕ) (pieces : ℕ → Sparse) (counts : ℕ → LineCounts) → IsOpening s opening header size line []
      → ArePiecesOf s n opening texts pieces counts → counted_lines counts 0 n ≡ size.count → Reads s (opening ++ texts_from texts 0 n) (sum_of_pieces s n size.shape pieces)
  text_of_pieces n opening header size line texts pieces counts is of all =
      text_of_read header texts opening size line n pieces counts is of.begins of.goes_on (λ r l. read_alike opening (texts r) header size line (pieces r) (counts r) is (of.each r l)) all
