-- The sums of the blocks of a matrix make the blocks of its sums, and so the plans make them.
use Rattle.std.proofs.Common.{◌≡◌, ℕ, zero, suc, ◌+◌, ◌-◌, ◌*◌, ◌<◌, ◌≤◌, ◌++◌, map, sym, ap, ◌∙◌, arith}
use Rattle.std.specs.Prelude.{Some}
use Rattle.std.specs.List.{range_with_len}
use Rattle.cb_semirings.specs.Arithmetic.{Arithmetic, IsValue, IsSemiring}
use Rattle.cb_matrix.specs.Sparse.{Sparse, Extent, IsMatrix, at}
use Rattle.cb_matrix.specs.Values.{total, matrix_of}
use Rattle.cb_matrix.specs.Operations.{cut, sum_of, transposed, column_sums, row_sums}
use Rattle.cb_matrix.proofs.Made.{at-matrix_of, same_matrix_of, IsMatrix-matrix_of}
use Rattle.cb_matrix.proofs.Totals.{value_at-value}
use Rattle.cb_matrix.proofs.Split.{total_parts}
use Rattle.cb_grid.specs.declared.TheConstants.{LARGEST_SIDE}
use Rattle.cb_grid.specs.Parts.{part, part_start, part_length}
use Rattle.cb_grid.specs.Blocks.{block_of}
use Rattle.cb_plan.specs.Meaning.{State, meaning}
use Rattle.cb_plan.specs.Algebras.{matrices}
use Rattle.cb_plan.proofs.Effects.{meaning-append}
use Rattle.cb_plan_parts.proofs.PartStarts.{start_zero, start_rises, start_within, start_last, map_below}
use Rattle.cb_plan_parts.specs.PlanParts.{each_rank, HasParts}
use Rattle.cb_plan.specs.declared.acts.Op.TheVariants as op_is
use Rattle.cb_plan_parts.proofs.Everywhere.{each_elsewhere}
use Rattle.cb_plan_parts.specs.Collectives.{shut_acts}
use Rattle.cb_plan_parts.proofs.ShutMeaning.{shut_nothing}
use Rattle.cb_plan_operations.specs.ReductionPlans.{gathered_sums, column_sums_acts, turned_sums_acts, turn_back_acts, row_sums_acts, turned, IsColumnSumsPlan, IsRowSumsPlan}
use Rattle.cb_plan_operations.proofs.ResultBlocks.{at-block, transposed_block}
use Rattle.cb_plan_operations.proofs.VectorSteps.{summed}
use Rattle.cb_plan_operations.proofs.GatheredSums.{sums_gathered, gathered_keeps, has_sums, after_copies, has_copies, turned_means, copies_keep, turned_back, turn_back_keeps}

-- block (i, j) of the sums of the columns
module _ (s : Arithmetic) (laws : IsSemiring s) (q : ℕ) (pos : 0 < q) (a : Sparse) (is_a : IsMatrix s a) (i j : ℕ) where
  abbrev width : ℕ
  width = part_length q a.shape.cols j

  abbrev left : ℕ
  left = part_start q a.shape.cols j

  abbrev shape : Extent
  shape = record { rows = part_length q 1 i; cols = width }

  -- a value of the sum at a place
  abbrev term : ℕ → ℕ → ℕ
  term y k = at s a k (left + y)

  term_value : (y k : ℕ) → IsValue s (term y k)
  term_value y k = value_at-value s laws a.entries k (left + y) is_a.values

  -- the rows of the sums of block (t, j) that the rank has
  abbrev pub own : ℕ → Sparse
  own t = cut s (part q 1 i) (0, width) (column_sums s (block_of s q a t j))

  -- the sum of the rows of the matrix from a number on
  abbrev of_rows : ℕ → ℕ → Sparse
  of_rows first n = matrix_of s shape (λ x y. total s (map (λ k. term y (first + k)) (range_with_len 0 n)))

  own_is : (t : ℕ) → own t ≡ of_rows (part_start q a.shape.rows t) (part_length q a.shape.rows t)
  own_is t =
      let b = block_of s q a t j in
      let n = part_length q a.shape.rows t in
      let top = part_start q a.shape.rows t in
      let wide : width - 0 ≡ width = omega arith in
      (λ z. matrix_of s (record { rows = part_length q 1 i; cols = wide z }) (λ x y. at s (column_sums s b) (part_start q 1 i + x) (0 + y)))
      ∙ same_matrix_of s shape (λ x y. at s (column_sums s b) (part_start q 1 i + x) (0 + y)) (λ x y. total s (map (λ k. term y (top + k)) (range_with_len 0 n))) (λ x y l m.
      let inside = start_within q 1 (i + 1) in
      let first : part_start q 1 i + x < 1 = omega arith in
      let across : 0 + y < width = omega arith in
      let same : 0 + y ≡ y = omega arith in
      at-matrix_of s (record { rows = 1; cols = width }) (λ x y. total s (map (λ k. at s b k y) (range_with_len 0 n))) (part_start q 1 i + x) (0 + y) first across
      ∙ ap (total s) (map_below (λ k. at s b k (0 + y)) (λ k. term y (top + k)) 0 n (λ k _ v.
      let w : k < n = omega arith in
      at-block s q a t j k (0 + y) w across ∙ ap (λ z. at s a (top + k) (left + z)) same)))

  -- the sums of the rows of the parts before number k
  abbrev partial : ℕ → Sparse
  partial k = matrix_of s shape (λ x y. total s (map (term y) (range_with_len 0 (part_start q a.shape.rows k))))

  partial_first : own 0 ≡ partial 1
  partial_first =
      let d = a.shape.rows in
      let f : part_length q d 0 ≡ part_start q d 1 = (let e : part_start q d 0 ≡ 0 = start_zero q d in omega arith) in
      own_is 0
      ∙ same_matrix_of s shape (λ x y. total s (map (λ k. term y (part_start q d 0 + k)) (range_with_len 0 (part_length q d 0)))) (λ x y. total s (map (term y) (range_with_len 0 (part_start q d 1)))) (λ x y l m.
      ap (total s) (map_below (λ k. term y (part_start q d 0 + k)) (term y) 0 (part_length q d 0) (λ k _ _. ap (term y) (let g : part_start q d 0 + k ≡ k = omega arith in g)))
      ∙ ap (λ n. total s (map (term y) (range_with_len 0 n))) f)

  partial_next : (k : ℕ) → sum_of s (partial k) (own k) ≡ partial (k + 1)
  partial_next k =
      let d = a.shape.rows in
      ap (sum_of s (partial k)) (own_is k)
      ∙ same_matrix_of s shape (λ x y. s.add (at s (partial k) x y) (at s (of_rows (part_start q d k) (part_length q d k)) x y)) (λ x y. total s (map (term y) (range_with_len 0 (part_start q d (k + 1))))) (λ x y l m.
      let join : part_start q d k + part_length q d k ≡ part_start q d (k + 1) = let up = start_rises q d k in omega arith in
      ap (λ v. s.add v (at s (of_rows (part_start q d k) (part_length q d k)) x y)) (at-matrix_of s shape (λ x y. total s (map (term y) (range_with_len 0 (part_start q d k)))) x y l m)
      ∙ ap (s.add (total s (map (term y) (range_with_len 0 (part_start q d k))))) (at-matrix_of s shape (λ x y. total s (map (λ u. term y (part_start q d k + u)) (range_with_len 0 (part_length q d k)))) x y l m)
      ∙ sym (total_parts s laws (term y) (term_value y) (part_start q d k) (part_length q d k))
      ∙ ap (λ n. total s (map (term y) (range_with_len 0 n))) join)

  partial_sums : (k : ℕ) → summed (matrices s) own k ≡ partial (suc k)
  partial_sums zero = partial_first
  partial_sums (suc k) =
      let e : suc k + 1 ≡ suc (suc k) = omega arith in
      ap (λ acc. sum_of s acc (own (suc k))) (partial_sums k) ∙ partial_next (suc k) ∙ ap partial e

  partial_all : partial q ≡ block_of s q (column_sums s a) i j
  partial_all =
      same_matrix_of s shape (λ x y. total s (map (term y) (range_with_len 0 (part_start q a.shape.rows q)))) (λ x y. at s (column_sums s a) (part_start q 1 i + x) (left + y)) (λ x y l m.
      let down = start_within q 1 (i + 1) in
      let across = start_within q a.shape.cols (j + 1) in
      ap (λ n. total s (map (term y) (range_with_len 0 n))) (start_last q a.shape.rows pos)
      ∙ sym (at-matrix_of s (record { rows = 1; cols = a.shape.cols }) (λ x y. total s (map (λ k. at s a k y) (range_with_len 0 a.shape.rows))) (part_start q 1 i + x) (left + y) (omega arith) (omega arith)))

  -- the ranks of a column make it together
  pub sums_make_block : summed (matrices s) own (q - 1) ≡ block_of s q (column_sums s a) i j
  sums_make_block =
      let e : suc (q - 1) ≡ q = omega arith in
      partial_sums (q - 1) ∙ ap partial e ∙ partial_all

-- what the ranks have in slot 1 of a matrix, and what they make of it in slot 2
module _ (s : Arithmetic) (laws : IsSemiring s) (q : ℕ) (pos : 0 < q) (few : q ≤ LARGEST_SIDE) where
  gathered_parts : (a : Sparse) → IsMatrix s a → (state : State Sparse) → ((i j : ℕ) → i < q → j < q → state (i * q + j) 1 ≡ Some (column_sums s (block_of s q a i j))) →
      HasParts s q (column_sums s a) 2 (meaning (matrices s) (gathered_sums q a.shape) state)
  gathered_parts a is_a state has i j l m =
      sums_gathered (matrices s) q few a.shape state (λ t j. column_sums s (block_of s q a t j)) pos has i j l m
      ∙ ap Some (sums_make_block s laws q pos a is_a i j)

-- the acts leave the sums of the columns
pub is_column_sums_plan : (q : ℕ) → 0 < q → q ≤ LARGEST_SIDE → (shape : Extent) → IsColumnSumsPlan (column_sums_acts q shape ++ shut_acts (q * q)) q shape
is_column_sums_plan q pos few shape s laws a is_a e state has =
    let ops = matrices s in
    let summed_blocks = each_rank q (λ _. op_is.ColumnSums 0 1) in
    let next : State Sparse = meaning ops summed_blocks state in
    let is : meaning ops (column_sums_acts q shape ++ shut_acts (q * q)) state ≡ meaning ops (gathered_sums q a.shape) next =
    meaning-append ops (column_sums_acts q shape) (shut_acts (q * q)) state
    ∙ shut_nothing ops (q * q) (meaning ops (column_sums_acts q shape) state)
    ∙ meaning-append ops summed_blocks (gathered_sums q shape) state
    ∙ ap (λ (d : Extent). meaning ops (gathered_sums q d) next) (sym e) in
    record {
      parts = λ i j l m. ap (λ st. st (i * q + j) 2) is ∙ gathered_parts s laws q pos few a is_a next (λ i j l m. has_sums ops q few shape state (block_of s q a) has i j l m) i j l m;
      kept = λ r. ap (λ st. st r 0) is ∙ gathered_keeps ops q few a.shape next r ∙ each_elsewhere ops q (λ _. op_is.ColumnSums 0 1) state r 0 (omega arith);
    }

-- the transpose of a matrix is one
transposed_is_matrix : (s : Arithmetic) → IsSemiring s → (a : Sparse) → IsMatrix s a → IsMatrix s (transposed s a)
transposed_is_matrix s laws a is_a =
    IsMatrix-matrix_of s (record { rows = a.shape.cols; cols = a.shape.rows }) (λ i j. at s a j i) (λ i j _ _. value_at-value s laws a.entries j i is_a.values)

-- the sums of its rows are those of the columns of its transpose, transposed
turned_sums : (s : Arithmetic) (a : Sparse) → transposed s (column_sums s (transposed s a)) ≡ row_sums s a
turned_sums s a =
    let m = a.shape.rows in
    let n = a.shape.cols in
    let other = transposed s a in
    same_matrix_of s (record { rows = m; cols = 1 }) (λ i j. at s (column_sums s other) j i) (λ i j. total s (map (λ k. at s a i k) (range_with_len 0 n))) (λ i j l h.
    at-matrix_of s (record { rows = 1; cols = m }) (λ i j. total s (map (λ k. at s other k j) (range_with_len 0 n))) j i h l
    ∙ ap (total s) (map_below (λ k. at s other k i) (λ k. at s a i k) 0 n (λ k _ b. at-matrix_of s (record { rows = n; cols = m }) (λ i j. at s a j i) k i (omega arith) l)))

-- the acts leave the sums of the rows
pub is_row_sums_plan : (q : ℕ) → 0 < q → q ≤ LARGEST_SIDE → (shape : Extent) → IsRowSumsPlan (row_sums_acts q shape ++ shut_acts (q * q)) q shape
is_row_sums_plan q pos few shape s laws a is_a e state has =
    let ops = matrices s in
    let other = transposed s a in
    let block = block_of s q a in
    let copies : State Sparse = after_copies ops q few shape state block has in
    let gathered : State Sparse = meaning ops (gathered_sums q other.shape) copies in
    let is : meaning ops (row_sums_acts q shape ++ shut_acts (q * q)) state ≡ meaning ops (turn_back_acts q) gathered =
    meaning-append ops (row_sums_acts q shape) (shut_acts (q * q)) state
    ∙ shut_nothing ops (q * q) (meaning ops (row_sums_acts q shape) state)
    ∙ meaning-append ops (turned_sums_acts q) (gathered_sums q (turned shape) ++ turn_back_acts q) state
    ∙ ap (meaning ops (gathered_sums q (turned shape) ++ turn_back_acts q)) (turned_means ops q few shape state block has)
    ∙ meaning-append ops (gathered_sums q (turned shape)) (turn_back_acts q) copies
    ∙ ap (λ (d : Extent). meaning ops (turn_back_acts q) (meaning ops (gathered_sums q (turned d)) copies)) (sym e) in
    let parts_turned : HasParts s q (column_sums s other) 2 gathered =
    gathered_parts s laws q pos few other (transposed_is_matrix s laws a is_a) copies
    (λ i j l m. has_copies ops q few shape state block has i j l m ∙ ap (λ (b : Sparse). Some (column_sums s b)) (transposed_block s q a i j)) in
    record {
      parts = λ i j l m.
          ap (λ st. st (i * q + j) 2) is
          ∙ turned_back ops q gathered (block_of s q (column_sums s other)) parts_turned i j l m
          ∙ ap Some (transposed_block s q (column_sums s other) i j)
          ∙ ap (λ (b : Sparse). Some (block_of s q b i j)) (turned_sums s a);
      kept = λ r.
          ap (λ st. st r 0) is
          ∙ turn_back_keeps ops q gathered r
          ∙ gathered_keeps ops q few other.shape copies r
          ∙ copies_keep ops q few shape state block has r;
    }
