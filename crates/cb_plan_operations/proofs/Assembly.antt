-- A matrix times a vector, piece by piece: the pieces make the vector's parts, and the pieces of the products of the
-- parts make the pieces of the result.
use Rattle.std.proofs.Common.{◌≡◌, ℕ, zero, suc, ◌+◌, ◌-◌, ◌<◌, ◌≤◌, true, false, cond, [], map, refl, sym, ap, ◌∙◌, arith}
use Rattle.std.specs.Prelude.{◌&&◌, nat_lt, nat_le}
use Rattle.std.specs.List.{range_with_len}
use Rattle.std.proofs.lemmas.Bool.Decides.{nat_tests}
use Rattle.std.proofs.lemmas.List.Elements.{All-nil}
use Rattle.cb_semirings.specs.Arithmetic.{Arithmetic, IsValue, IsSemiring}
use Rattle.cb_matrix.specs.declared.Entry.{Entry}
use Rattle.cb_matrix.specs.Sparse.{Sparse, Extent, IsMatrix, IsInside, IsBefore, is_at, at}
use Rattle.cb_matrix.specs.Values.{total, matrix_of, empty_matrix, product}
use Rattle.cb_matrix.specs.Operations.{cut, placed, is_covered, sum_of}
use Rattle.cb_matrix.proofs.Pairs.{AllPairs-nil}
use Rattle.cb_matrix.proofs.Places.{value_at-none}
use Rattle.cb_matrix.proofs.Made.{at-matrix_of, same_matrix_of}
use Rattle.cb_matrix.proofs.Equal.{matrix_is}
use Rattle.cb_matrix.proofs.Totals.{add_zero, value_at-value}
use Rattle.cb_matrix.proofs.Split.{total_parts}
use Rattle.cb_grid.specs.Parts.{part, part_start, part_length}
use Rattle.cb_grid.specs.Blocks.{block_of}
use Rattle.cb_grid.specs.Pieces.{piece_of, piece_start}
use Rattle.cb_plan.specs.Algebras.{matrices}
use Rattle.cb_plan.proofs.Effects.{split}
use Rattle.cb_plan_parts.proofs.PartStarts.{start_zero, start_rises, start_within, start_last, map_below}
use Rattle.cb_plan_operations.specs.VectorPlans.{column}
use Rattle.cb_plan_operations.proofs.VectorSteps.{assembled, summed}

-- part j of a vector
abbrev pub vector_part : Arithmetic → ℕ → Sparse → ℕ → Sparse
vector_part s q x j = matrix_of s (column (part_length q x.shape.rows j)) (λ r c. at s x (part_start q x.shape.rows j + r) c)

empty_is_matrix : (s : Arithmetic) (shape : Extent) → IsMatrix s (empty_matrix shape)
empty_is_matrix s shape = record {
  ascending = AllPairs-nil IsBefore;
  inside = All-nil (IsInside shape);
  values = All-nil (λ (e : Entry). IsValue s e.value);
  not_zero = All-nil (λ (e : Entry). e.value ≡ s.zero → ⊥);
}

module _ (s : Arithmetic) (laws : IsSemiring s) (q : ℕ) (pos : 0 < q) (x : Sparse) (is_x : IsMatrix s x) (one_column : x.shape.cols ≡ 1) (j : ℕ) where
  abbrev rows : ℕ
  rows = part_length q x.shape.rows j

  abbrev whole : Extent
  whole = column rows

  abbrev value : ℕ → ℕ → ℕ
  value r c = at s x (part_start q x.shape.rows j + r) c

  is_value : (r c : ℕ) → IsValue s (value r c)
  is_value r c = value_at-value s laws x.entries (part_start q x.shape.rows j + r) c is_x.values

  -- part j, of which only the pieces before number k are there
  abbrev front : ℕ → ℕ → ℕ → ℕ
  front k r c = cond (nat_lt r (part_start q rows k)) (value r c) s.zero

  front_none : empty_matrix whole ≡ matrix_of s whole (front 0)
  front_none =
      matrix_is s laws (empty_matrix whole) whole (front 0) (empty_is_matrix s whole) refl (λ r c l m.
      let e : part_start q rows 0 ≡ 0 = start_zero q rows in
      let f : nat_lt r 0 ≡ false = grind (arith, nat_tests) in
      value_at-none s.zero [] r c (All-nil (λ e. is_at r c e ≡ false)) ∙ rw (e, f) refl)

  -- a piece in its place
  abbrev placed_piece : ℕ → Sparse
  placed_piece k = placed s whole (part_start q rows k, 0) (piece_of s q x j k)

  placed_value : (k r c : ℕ) → r < rows → c < 1 → at s (placed_piece k) r c ≡ cond (nat_le (part_start q rows k) r && nat_lt r (part_start q rows (k + 1))) (value r c) s.zero
  placed_value k r c l m =
      let first = part_start q rows k in
      let last = part_start q rows (k + 1) in
      let up = start_rises q rows k in
      let piece = piece_of s q x j k in
      at-matrix_of s whole (λ r c. cond (is_covered (first, 0) piece.shape r c) (at s piece (r - first) (c - 0)) s.zero) r c l m
      ∙ split (nat_le first r && nat_lt r last)
      (λ t.
      let low : first ≤ r = grind (arith, nat_tests) in
      let high : r < last = grind (arith, nat_tests) in
      let u : is_covered (first, 0) piece.shape r c ≡ true = grind (arith, nat_tests, one_column) in
      let e : piece_start q x.shape.rows j k + (r - first) ≡ part_start q x.shape.rows j + r = omega arith in
      let f : 0 + (c - 0) ≡ c = omega arith in
      rw (t, u)
      (at-matrix_of s piece.shape (λ r c. at s x (piece_start q x.shape.rows j k + r) (0 + c)) (r - first) (c - 0) (omega arith) (omega (arith, one_column))
      ∙ ap (λ r. at s x r (0 + (c - 0))) e ∙ ap (at s x (part_start q x.shape.rows j + r)) f))
      (λ t.
      let u : is_covered (first, 0) piece.shape r c ≡ false = grind (arith, nat_tests, one_column) in
      rw (t, u) refl)

  front_next : (k : ℕ) → sum_of s (matrix_of s whole (front k)) (placed_piece k) ≡ matrix_of s whole (front (k + 1))
  front_next k =
      same_matrix_of s whole (λ r c. s.add (at s (matrix_of s whole (front k)) r c) (at s (placed_piece k) r c)) (front (k + 1)) (λ r c l m.
      let first = part_start q rows k in
      let last = part_start q rows (k + 1) in
      let up = start_rises q rows k in
      ap (λ v. s.add v (at s (placed_piece k) r c)) (at-matrix_of s whole (front k) r c l m)
      ∙ ap (s.add (front k r c)) (placed_value k r c l m)
      ∙ split (nat_lt r first)
      (λ t.
      let u : (nat_le first r && nat_lt r last) ≡ false = grind (arith, nat_tests) in
      let v : nat_lt r last ≡ true = grind (arith, nat_tests) in
      rw (t, u, v) (add_zero s laws (value r c) (is_value r c)))
      (λ t. split (nat_lt r last)
      (λ v.
      let u : (nat_le first r && nat_lt r last) ≡ true = grind (arith, nat_tests) in
      rw (t, u, v) (laws.zero_add (value r c) (is_value r c)))
      (λ v.
      let u : (nat_le first r && nat_lt r last) ≡ false = grind (arith, nat_tests) in
      rw (t, u, v) (laws.zero_add s.zero laws.zero_value))))

  front_pieces : (k : ℕ) → assembled (matrices s) q whole (piece_of s q x j) k ≡ matrix_of s whole (front k)
  front_pieces zero = front_none
  front_pieces (suc k) =
      let e : k + 1 ≡ suc k = omega arith in
      ap (λ acc. sum_of s acc (placed_piece k)) (front_pieces k) ∙ front_next k ∙ ap (λ n. matrix_of s whole (front n)) e

  -- all pieces make the part
  pub part_assembled : assembled (matrices s) q whole (piece_of s q x j) q ≡ vector_part s q x j
  part_assembled =
      front_pieces q ∙ same_matrix_of s whole (front q) value (λ r c l m.
      let e : part_start q rows q ≡ rows = start_last q rows pos in
      let u : nat_lt r rows ≡ true = grind (arith, nat_tests) in
      rw (e, u) refl)

-- piece t of part i of the result
module _ (s : Arithmetic) (laws : IsSemiring s) (q : ℕ) (pos : 0 < q) (a x : Sparse) (is_a : IsMatrix s a) (is_x : IsMatrix s x) (agree : a.shape.cols ≡ x.shape.rows) (one_column : x.shape.cols ≡ 1) (i t : ℕ) where
  abbrev height : ℕ
  height = part_length q a.shape.rows i

  abbrev shape : Extent
  shape = column (part_length q height t)

  abbrev top : ℕ → ℕ
  top r = part_start q a.shape.rows i + (part_start q height t + r)

  -- one product of the sum at a place of the piece
  abbrev term : ℕ → ℕ → ℕ → ℕ
  term r c k = s.mul (at s a (top r) k) (at s x k c)

  term_value : (r c k : ℕ) → IsValue s (term r c k)
  term_value r c k = laws.mul_value (at s a (top r) k) (at s x k c) (value_at-value s laws a.entries (top r) k is_a.values) (value_at-value s laws x.entries k c is_x.values)

  -- the product of block (i, u) and part u of the vector
  abbrev part_product : ℕ → Sparse
  part_product u = product s (block_of s q a i u) (vector_part s q x u)

  -- its piece t
  abbrev pub summand : ℕ → Sparse
  summand u = cut s (part q height t) (0, 1) (part_product u)

  part_product_value : (u r c : ℕ) → r < shape.rows → c < 1 →
      at s (part_product u) (part_start q height t + r) (0 + c) ≡ total s (map (λ k. term r c (part_start q a.shape.cols u + k)) (range_with_len 0 (part_length q a.shape.cols u)))
  part_product_value u r c l m =
      let left = block_of s q a i u in
      let right = vector_part s q x u in
      let n = part_length q a.shape.cols u in
      let down = part_start q height t + r in
      let inside = start_within q height (t + 1) in
      let below : down < height = omega arith in
      let across : 0 + c < 1 = omega arith in
      let same : 0 + c ≡ c = omega arith in
      at-matrix_of s (column height) (λ x y. total s (map (λ k. s.mul (at s left x k) (at s right k y)) (range_with_len 0 n))) down (0 + c) below across
      ∙ ap (total s) (map_below (λ k. s.mul (at s left down k) (at s right k (0 + c))) (λ k. term r c (part_start q a.shape.cols u + k)) 0 n (λ k _ v.
      let w : k < n = omega arith in
      let z : k < part_length q x.shape.rows u = rw agree at w in
      ap (λ y. s.mul y (at s right k (0 + c))) (at-matrix_of s (record { rows = height; cols = n }) (λ x y. at s a (part_start q a.shape.rows i + x) (part_start q a.shape.cols u + y)) down k below w)
      ∙ ap (s.mul (at s a (top r) (part_start q a.shape.cols u + k))) (at-matrix_of s (column (part_length q x.shape.rows u)) (λ r c. at s x (part_start q x.shape.rows u + r) c) k (0 + c) z across
      ∙ ap (λ d. at s x (part_start q d u + k) (0 + c)) (sym agree)
      ∙ ap (at s x (part_start q a.shape.cols u + k)) same)))

  -- piece t of the result, of which only the products with the vector's parts before number k are added
  abbrev partial : ℕ → Sparse
  partial k = matrix_of s shape (λ r c. total s (map (term r c) (range_with_len 0 (part_start q a.shape.cols k))))

  partial_first : summand 0 ≡ partial 1
  partial_first =
      let d = a.shape.cols in
      let e : part_start q d 0 ≡ 0 = start_zero q d in
      let f : part_length q d 0 ≡ part_start q d 1 = omega arith in
      same_matrix_of s shape (λ r c. at s (part_product 0) (part_start q height t + r) (0 + c)) (λ r c. total s (map (term r c) (range_with_len 0 (part_start q d 1)))) (λ r c l m.
      part_product_value 0 r c l m
      ∙ ap (total s) (map_below (λ k. term r c (part_start q d 0 + k)) (term r c) 0 (part_length q d 0) (λ k _ _. ap (term r c) (let g : part_start q d 0 + k ≡ k = omega arith in g)))
      ∙ ap (λ n. total s (map (term r c) (range_with_len 0 n))) f)

  partial_next : (k : ℕ) → sum_of s (partial k) (summand k) ≡ partial (k + 1)
  partial_next k =
      let d = a.shape.cols in
      same_matrix_of s shape (λ r c. s.add (at s (partial k) r c) (at s (summand k) r c)) (λ r c. total s (map (term r c) (range_with_len 0 (part_start q d (k + 1))))) (λ r c l m.
      let so_far : at s (partial k) r c ≡ total s (map (term r c) (range_with_len 0 (part_start q d k))) =
      at-matrix_of s shape (λ r c. total s (map (term r c) (range_with_len 0 (part_start q d k)))) r c l m in
      let more : at s (summand k) r c ≡ total s (map (λ u. term r c (part_start q d k + u)) (range_with_len 0 (part_length q d k))) =
      at-matrix_of s shape (λ r c. at s (part_product k) (part_start q height t + r) (0 + c)) r c l m ∙ part_product_value k r c l m in
      let join : part_start q d k + part_length q d k ≡ part_start q d (k + 1) = let up = start_rises q d k in omega arith in
      ap (λ v. s.add v (at s (summand k) r c)) so_far
      ∙ ap (s.add (total s (map (term r c) (range_with_len 0 (part_start q d k))))) more
      ∙ sym (total_parts s laws (term r c) (term_value r c) (part_start q d k) (part_length q d k))
      ∙ ap (λ n. total s (map (term r c) (range_with_len 0 n))) join)

  partial_sums : (k : ℕ) → summed (matrices s) summand k ≡ partial (suc k)
  partial_sums zero = partial_first
  partial_sums (suc k) =
      let e : suc k + 1 ≡ suc (suc k) = omega arith in
      ap (λ acc. sum_of s acc (summand (suc k))) (partial_sums k) ∙ partial_next (suc k) ∙ ap partial e

  partial_all : partial q ≡ piece_of s q (product s a x) i t
  partial_all =
      let m = a.shape.rows in
      let rows : part_length q height t ≡ piece_start q m i (t + 1) - piece_start q m i t = omega arith in
      let cols : 1 ≡ x.shape.cols - 0 = omega (arith, one_column) in
      let within = start_within q height (t + 1) in
      let inside = start_within q m (i + 1) in
      same_matrix_of s shape (λ r c. total s (map (term r c) (range_with_len 0 (part_start q a.shape.cols q)))) (λ r c. at s (product s a x) (piece_start q m i t + r) (0 + c)) (λ r c l b.
      let e : top r ≡ piece_start q m i t + r = omega arith in
      let f : c ≡ 0 + c = omega arith in
      ap (λ n. total s (map (term r c) (range_with_len 0 n))) (start_last q a.shape.cols pos)
      ∙ ap (λ y. total s (map (λ k. s.mul (at s a y k) (at s x k c)) (range_with_len 0 a.shape.cols))) e
      ∙ ap (λ y. total s (map (λ k. s.mul (at s a (piece_start q m i t + r) k) (at s x k y)) (range_with_len 0 a.shape.cols))) f
      ∙ sym (at-matrix_of s (record { rows = m; cols = x.shape.cols }) (λ r c. total s (map (λ k. s.mul (at s a r k) (at s x k c)) (range_with_len 0 a.shape.cols))) (piece_start q m i t + r) (0 + c) (omega arith) (omega (arith, one_column))))
      ∙ (λ k. matrix_of s (record { rows = rows k; cols = cols k }) (λ r c. at s (product s a x) (piece_start q m i t + r) (0 + c)))

  -- the pieces of all products add up to the piece of the result
  pub pieces_make_product : summed (matrices s) summand (q - 1) ≡ piece_of s q (product s a x) i t
  pieces_make_product =
      let e : suc (q - 1) ≡ q = omega arith in
      partial_sums (q - 1) ∙ ap partial e ∙ partial_all
