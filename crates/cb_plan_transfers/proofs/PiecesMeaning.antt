-- What the plan for reading leaves: the parts of the sum of the pieces.
use Rattle.std.proofs.Common.{◌≡◌, ◌≢◌, ℕ, zero, suc, ◌+◌, ◌-◌, ◌*◌, ◌%◌, ◌<◌, ◌≤◌, [], ◌∷◌, ◌++◌, map, refl, sym, ap, ◌∙◌, arith}
use Rattle.std.specs.Prelude.{All, Some}
use Rattle.std.specs.List.{range_with_len}
use Rattle.std.proofs.lemmas.List.{map-append}
use Rattle.std.proofs.lemmas.List.Elements.{All-nil, All-cons}
use Rattle.std.proofs.lemmas.Nat.{mod-mul-add}
use Rattle.std.proofs.Math.Nat.{mul-le-mul_left}
use Rattle.cb_semirings.specs.Arithmetic.{Arithmetic, IsValue, IsSemiring}
use Rattle.cb_matrix.specs.Sparse.{Sparse, Extent, at}
use Rattle.cb_matrix.specs.Values.{total, matrix_of}
use Rattle.cb_matrix.specs.Operations.{cut, sum_of}
use Rattle.cb_matrix.proofs.Made.{at-matrix_of, same_matrix_of}
use Rattle.cb_matrix.proofs.Split.{range_parts, shifted}
use Rattle.cb_matrix.proofs.Totals.{total-append, total-one, total_value, value_at-value}
use Rattle.cb_grid.specs.Parts.{part, part_start, part_length, part_shape}
use Rattle.cb_grid.specs.Blocks.{block_of}
use Rattle.cb_grid.proofs.Parts.{rank_below}
use Rattle.cb_plan.specs.declared.acts.Op.TheVariants as op_is
use Rattle.cb_plan.specs.Meaning.{Algebra, State, meaning}
use Rattle.cb_plan.specs.Algebras.{matrices}
use Rattle.cb_plan.proofs.Effects.{meaning-append}
use Rattle.cb_plan_parts.specs.Collectives.{shut_acts}
use Rattle.cb_plan_parts.specs.PlanParts.{tagged}
use Rattle.cb_plan_parts.proofs.PartStarts.{start_within}
use Rattle.cb_plan_parts.proofs.ShutMeaning.{shut_nothing}
use Rattle.cb_plan_operations.specs.VectorPlans.{each_works}
use Rattle.cb_plan_operations.proofs.RankPrograms.{after_ops, after_ops-append, each_works_here}
use Rattle.cb_plan_operations.proofs.VectorSteps.{summed}
use Rattle.cb_plan_transfers.specs.Rounds.{column_cuts, given_away, row_exchanges, column_exchanges, sums}
use Rattle.cb_plan_transfers.specs.Pieces.{IsPiecesPlan, IsPiece, sum_of_pieces, sum_cuts, received_sums, pieces_acts}
use Rattle.cb_plan_transfers.proofs.ReceivedBlocks.{op_skips, cuts_made, sums_made}
use Rattle.cb_plan_transfers.proofs.RoundsMeaning.{rows_exchange, columns_exchange}

-- ---- what is in the slots after each step, over blocks of any kind
module _ {M : Type 0} (ops : Algebra M) (q : ℕ) (shape : Extent) (pieces : ℕ → M) where
  -- part k of the columns of the piece of rank (i, j)
  abbrev columns_at : ℕ → ℕ → ℕ → M
  columns_at i k j = ops.cut (0, shape.rows) (part q shape.cols k) (pieces (i * q + j))

  -- that part of the sum of the pieces of row i
  abbrev row_sum : ℕ → ℕ → M
  row_sum i k = summed ops (columns_at i k) (q - 1)

  -- part h of the rows of that
  abbrev rows_at : ℕ → ℕ → ℕ → M
  rows_at h k i = ops.cut (part q shape.rows h) (0, part_length q shape.cols k) (row_sum i k)

module _ {M : Type 0} (ops : Algebra M) (q : ℕ) (shape : Extent) (pieces : ℕ → M) (state : State M) (has : (r : ℕ) → r < q * q → state r 0 ≡ Some (pieces r)) where
  abbrev cuts : State M
  cuts = meaning ops (each_works q (λ _. given_away q shape)) state

  abbrev rows_exchanged : State M
  rows_exchanged = meaning ops (row_exchanges q (tagged 0)) cuts

  abbrev rows_added : State M
  rows_added = meaning ops (received_sums q) rows_exchanged

  abbrev sums_cut : State M
  sums_cut = meaning ops (each_works q (sum_cuts q shape)) rows_added

  abbrev columns_exchanged : State M
  columns_exchanged = meaning ops (column_exchanges q (tagged 0)) sums_cut

  -- slot 1 + k of each rank has part k of the columns of its piece
  piece_is_cut : (i j k : ℕ) → i < q → j < q → k < q → cuts (i * q + j) (1 + k) ≡ Some (columns_at ops q shape pieces i k j)
  piece_is_cut i j k l m o =
      let slots = state (i * q + j) in
      let below = rank_below q i j l m in
      ap (λ sl. sl (1 + k)) (each_works_here ops q (λ _. given_away q shape) state (i * q + j) below ∙ after_ops-append ops (column_cuts q shape) (op_is.Clear 0 ∷ []) slots)
      ∙ op_skips ops (op_is.Clear 0) (1 + k) (after_ops ops (column_cuts q shape) slots) (let ne : 0 ≢ 1 + k = omega arith in ne)
      ∙ cuts_made ops 0 (λ _. (0, shape.rows)) (part q shape.cols) q slots (pieces (i * q + j)) k o (λ h _. let ne : 1 + h ≢ 0 = omega arith in ne) (has (i * q + j) below)

  -- slot 1 + q of rank (i, k) has the sum of what the ranks of row i had for it
  row_is_added : (i k : ℕ) → i < q → k < q → rows_added (i * q + k) (1 + q) ≡ Some (row_sum ops q shape pieces i k)
  row_is_added i k l o =
      ap (λ sl. sl (1 + q)) (each_works_here ops q (λ _. sums (1 + q) q) rows_exchanged (i * q + k) (rank_below q i k l o))
      ∙ sums_made ops (columns_at ops q shape pieces i k) (1 + q) q (rows_exchanged (i * q + k)) (omega arith) (λ j m. rows_exchange ops q (tagged 0) cuts i j k l m o ∙ piece_is_cut i j k l m o)

  -- slot 1 + h has part h of its rows
  sum_is_cut : (i k h : ℕ) → i < q → k < q → h < q → sums_cut (i * q + k) (1 + h) ≡ Some (rows_at ops q shape pieces h k i)
  sum_is_cut i k h l o m =
      let column : (i * q + k) % q ≡ k = mod-mul-add i q k o in
      ap (λ sl. sl (1 + h)) (each_works_here ops q (sum_cuts q shape) rows_added (i * q + k) (rank_below q i k l o))
      ∙ cuts_made ops (1 + q) (part q shape.rows) (λ _. (0, part_length q shape.cols ((i * q + k) % q))) q (rows_added (i * q + k)) (row_sum ops q shape pieces i k) h m (λ g b. let ne : 1 + g ≢ 1 + q = omega arith in ne) (row_is_added i k l o)
      ∙ ap (λ c. Some (ops.cut (part q shape.rows h) (0, part_length q shape.cols c) (row_sum ops q shape pieces i k))) column

  -- after all acts slot 1 + q of rank (h, k) has the sum of what the ranks of column k had for it
  pub parts_added : (h k : ℕ) → h < q → k < q → meaning ops (pieces_acts q shape) state (h * q + k) (1 + q) ≡ Some (summed ops (rows_at ops q shape pieces h k) (q - 1))
  parts_added h k m o =
      let first = each_works q (λ _. given_away q shape) in
      let rows = row_exchanges q (tagged 0) in
      let adds = received_sums q in
      let second = each_works q (sum_cuts q shape) in
      let columns = column_exchanges q (tagged 0) in
      let all = first ++ (rows ++ (adds ++ (second ++ (columns ++ adds)))) in
      ap (λ st. st (h * q + k) (1 + q)) (meaning-append ops all (shut_acts (q * q)) state
      ∙ shut_nothing ops (q * q) (meaning ops all state)
      ∙ meaning-append ops first (rows ++ (adds ++ (second ++ (columns ++ adds)))) state
      ∙ meaning-append ops rows (adds ++ (second ++ (columns ++ adds))) cuts
      ∙ meaning-append ops adds (second ++ (columns ++ adds)) rows_exchanged
      ∙ meaning-append ops second (columns ++ adds) rows_added
      ∙ meaning-append ops columns adds sums_cut)
      ∙ ap (λ sl. sl (1 + q)) (each_works_here ops q (λ _. sums (1 + q) q) columns_exchanged (h * q + k) (rank_below q h k m o))
      ∙ sums_made ops (rows_at ops q shape pieces h k) (1 + q) q (columns_exchanged (h * q + k)) (omega arith) (λ i l. columns_exchange ops q (tagged 0) sums_cut i k h l o m ∙ sum_is_cut i k h l o m)

-- ---- over a semiring
-- a place in the first n rows of q places each
in_rows : (n q i j : ℕ) → i < n → j < q → i * q + j < n * q
in_rows n q i j l m = let e : q * (i + 1) ≤ q * n = mul-le-mul_left q (let k : i + 1 ≤ n = omega arith in k) in omega arith

module _ (s : Arithmetic) (laws : IsSemiring s) where
  values_below : (f : ℕ → ℕ) (a n : ℕ) → ((k : ℕ) → k < a + n → IsValue s (f k)) → All (IsValue s) (map f (range_with_len a n))
  values_below f a zero h = All-nil (IsValue s)
  values_below f a (suc n) h = All-cons (IsValue s) (f a) (map f (range_with_len (a + 1) n)) (h a (omega arith)) (values_below f (a + 1) n (λ k l. h k (omega arith)))

  -- the sum of m values and then n more
  total_both : (f : ℕ → ℕ) (m n : ℕ) → ((k : ℕ) → k < m + n → IsValue s (f k)) → total s (map f (range_with_len 0 (m + n))) ≡ s.add (total s (map f (range_with_len 0 m))) (total s (map (λ k. f (m + k)) (range_with_len 0 n)))
  total_both f m n h =
      let start : 0 + m ≡ m + 0 = omega arith in
      ap (λ ks. total s (map f ks)) (range_parts 0 m n)
      ∙ ap (total s) (map-append f (range_with_len 0 m) (range_with_len (0 + m) n))
      ∙ total-append s laws (map f (range_with_len 0 m)) (map f (range_with_len (0 + m) n)) (values_below f 0 m (λ k l. h k (omega arith))) (values_below f (0 + m) n (λ k l. h k (omega arith)))
      ∙ ap (λ ks. s.add (total s (map f (range_with_len 0 m))) (total s ks)) (ap (λ a. map f (range_with_len a n)) start ∙ shifted f m 0 n)

  -- the sum of one value more
  total_last : (f : ℕ → ℕ) (n : ℕ) → ((k : ℕ) → k < suc n → IsValue s (f k)) → total s (map f (range_with_len 0 (suc n))) ≡ s.add (total s (map f (range_with_len 0 n))) (f n)
  total_last f n h =
      let e : suc n ≡ n + 1 = omega arith in
      let g : n + 0 ≡ n = omega arith in
      ap (λ k. total s (map f (range_with_len 0 k))) e
      ∙ total_both f n 1 (λ k l. h k (omega arith))
      ∙ ap (s.add (total s (map f (range_with_len 0 n)))) (total-one s laws (f (n + 0)) (h (n + 0) (omega arith)) ∙ ap f g)

  -- values that are added up row by row
  total_rows : (f : ℕ → ℕ) (q n : ℕ) → ((k : ℕ) → k < n * q → IsValue s (f k)) → total s (map (λ i. total s (map (λ j. f (i * q + j)) (range_with_len 0 q))) (range_with_len 0 n)) ≡ total s (map f (range_with_len 0 (n * q)))
  total_rows f q zero h = let e : 0 * q ≡ 0 = omega arith in ap (λ k. total s (map f (range_with_len 0 k))) (sym e)
  total_rows f q (suc n) h =
      let e : n * q + q ≡ suc n * q = omega arith in
      let row : ℕ → ℕ = λ i. total s (map (λ j. f (i * q + j)) (range_with_len 0 q)) in
      total_last row n (λ i l. total_value s laws (map (λ j. f (i * q + j)) (range_with_len 0 q)) (values_below (λ j. f (i * q + j)) 0 q (λ j m. h (i * q + j) (in_rows (suc n) q i j l (omega arith)))))
      ∙ ap (λ v. s.add v (row n)) (total_rows f q n (λ k l. h k (omega arith)))
      ∙ sym (total_both f (n * q) q (λ k l. h k (omega arith)))
      ∙ ap (λ k. total s (map f (range_with_len 0 k))) e

  -- matrices that have these values add up to the one that has their sums
  module _ (size : Extent) (own : ℕ → Sparse) (term : ℕ → ℕ → ℕ → ℕ) (count : ℕ) (is : (k : ℕ) → k < count → own k ≡ matrix_of s size (λ x y. term x y k)) (each : (x y : ℕ) → x < size.rows → y < size.cols → (k : ℕ) → k < count → IsValue s (term x y k)) where
    abbrev partial : ℕ → Sparse
    partial k = matrix_of s size (λ x y. total s (map (term x y) (range_with_len 0 k)))

    partial_sums : (k : ℕ) → k < count → summed (matrices s) own k ≡ partial (suc k)
    partial_sums zero l = is 0 l ∙ same_matrix_of s size (λ x y. term x y 0) (λ x y. total s (map (term x y) (range_with_len 0 1))) (λ x y m o. sym (total-one s laws (term x y 0) (each x y m o 0 l)))
    partial_sums (suc k) l =
        ap (λ acc. sum_of s acc (own (suc k))) (partial_sums k (omega arith))
        ∙ ap (sum_of s (partial (suc k))) (is (suc k) l)
        ∙ same_matrix_of s size (λ x y. s.add (at s (partial (suc k)) x y) (at s (matrix_of s size (λ x y. term x y (suc k))) x y)) (λ x y. total s (map (term x y) (range_with_len 0 (suc (suc k))))) (λ x y m o.
        ap (λ v. s.add v (at s (matrix_of s size (λ x y. term x y (suc k))) x y)) (at-matrix_of s size (λ x y. total s (map (term x y) (range_with_len 0 (suc k)))) x y m o)
        ∙ ap (s.add (total s (map (term x y) (range_with_len 0 (suc k))))) (at-matrix_of s size (λ x y. term x y (suc k)) x y m o)
        ∙ sym (total_last (term x y) (suc k) (λ r b. each x y m o r (omega arith))))

    summed_values : 0 < count → summed (matrices s) own (count - 1) ≡ partial count
    summed_values pos = let e : suc (count - 1) ≡ count = omega arith in partial_sums (count - 1) (omega arith) ∙ ap partial e

  -- a part of a matrix that has these values
  part_values : (rows cols : ℕ × ℕ) (m : Sparse) (size : Extent) (f : ℕ → ℕ → ℕ) → rows.1 - rows.0 ≡ size.rows → cols.1 - cols.0 ≡ size.cols
      → ((x y : ℕ) → x < size.rows → y < size.cols → at s m (rows.0 + x) (cols.0 + y) ≡ f x y) → cut s rows cols m ≡ matrix_of s size f
  part_values rows cols m size f high wide is =
      (λ z. matrix_of s (record { rows = high z; cols = wide z }) (λ x y. at s m (rows.0 + x) (cols.0 + y)))
      ∙ same_matrix_of s size (λ x y. at s m (rows.0 + x) (cols.0 + y)) f is

  -- part (h, k) of the sum of the pieces
  module _ (q : ℕ) (pos : 0 < q) (shape : Extent) (pieces : ℕ → Sparse) (each : (r : ℕ) → r < q * q → IsPiece s shape (pieces r)) (h k : ℕ) where
    -- the value of a piece at a place
    abbrev value : ℕ → ℕ → ℕ → ℕ
    value x y r = at s (pieces r) x y

    is_value : (x y r : ℕ) → r < q * q → IsValue s (value x y r)
    is_value x y r l = value_at-value s laws (pieces r).entries x y (each r l).matrix.values

    abbrev top : ℕ
    top = part_start q shape.rows h

    abbrev left : ℕ
    left = part_start q shape.cols k

    abbrev width : ℕ
    width = part_length q shape.cols k

    -- part k of the columns of the pieces of row i, added up
    abbrev row_value : ℕ → ℕ → ℕ → ℕ
    row_value i x y = total s (map (λ j. value x (left + y) (i * q + j)) (range_with_len 0 q))

    abbrev columns : Extent
    columns = record { rows = shape.rows; cols = width }

    row_values : (i : ℕ) → i < q → row_sum (matrices s) q shape pieces i k ≡ matrix_of s columns (row_value i)
    row_values i l =
        summed_values columns (columns_at (matrices s) q shape pieces i k) (λ x y j. value x (left + y) (i * q + j)) q
        (λ j m. part_values (0, shape.rows) (part q shape.cols k) (pieces (i * q + j)) columns (λ x y. value x (left + y) (i * q + j)) (omega arith) refl (λ x y _ _.
        let e : 0 + x ≡ x = omega arith in ap (λ r. value r (left + y) (i * q + j)) e))
        (λ x y _ _ j m. is_value x (left + y) (i * q + j) (rank_below q i j l m))
        pos

    row_is_value : (i x y : ℕ) → i < q → IsValue s (row_value i x y)
    row_is_value i x y l =
        total_value s laws (map (λ j. value x (left + y) (i * q + j)) (range_with_len 0 q)) (values_below (λ j. value x (left + y) (i * q + j)) 0 q (λ j m. is_value x (left + y) (i * q + j) (rank_below q i j l (omega arith))))

    -- the parts of all pieces add up to the part of their sum
    pub parts_make_part : summed (matrices s) (rows_at (matrices s) q shape pieces h k) (q - 1) ≡ block_of s q (sum_of_pieces s (q * q) shape pieces) h k
    parts_make_part =
        let size = part_shape q shape h k in
        summed_values size (rows_at (matrices s) q shape pieces h k) (λ x y i. row_value i (top + x) y) q
        (λ i l.
        ap (cut s (part q shape.rows h) (0, width)) (row_values i l)
        ∙ part_values (part q shape.rows h) (0, width) (matrix_of s columns (row_value i)) size (λ x y. row_value i (top + x) y) refl (omega arith) (λ x y m o.
        let within = start_within q shape.rows (h + 1) in
        let e : 0 + y ≡ y = omega arith in
        at-matrix_of s columns (row_value i) (top + x) (0 + y) (omega arith) (omega arith) ∙ ap (row_value i (top + x)) e))
        (λ x y _ _ i l. row_is_value i (top + x) y l)
        pos
        ∙ same_matrix_of s size (λ x y. total s (map (λ i. row_value i (top + x) y) (range_with_len 0 q))) (λ x y. at s (sum_of_pieces s (q * q) shape pieces) (top + x) (left + y)) (λ x y m o.
        let down = start_within q shape.rows (h + 1) in
        let right = start_within q shape.cols (k + 1) in
        total_rows (value (top + x) (left + y)) q q (λ r l. is_value (top + x) (left + y) r l)
        ∙ sym (at-matrix_of s shape (λ x y. total s (map (value x y) (range_with_len 0 (q * q)))) (top + x) (left + y) (omega arith) (omega arith)))

-- the acts leave the parts of the sum of the pieces
pub is_pieces_plan : (q : ℕ) → 0 < q → (shape : Extent) → IsPiecesPlan (pieces_acts q shape) q shape (1 + q)
is_pieces_plan q pos shape s laws pieces state has i j l m =
    parts_added (matrices s) q shape pieces state has.there i j l m ∙ ap Some (parts_make_part s laws q pos shape pieces has.each i j)
