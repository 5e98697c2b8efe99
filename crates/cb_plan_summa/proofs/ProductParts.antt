-- The product of two matrices, part by part.
use Rattle.std.proofs.Common.{◌≡◌, ℕ, zero, suc, ◌+◌, ◌<◌, true, [], map, refl, sym, ap, ◌∙◌, arith}
use Rattle.std.specs.Prelude.{◌==◌}
use Rattle.std.specs.List.{range_with_len}
use Rattle.std.proofs.lemmas.Bool.{eq-eqb}
use Rattle.cb_semirings.specs.Arithmetic.{Arithmetic, IsValue, IsSemiring}
use Rattle.cb_matrix.specs.Sparse.{Sparse, Extent, IsMatrix, at}
use Rattle.cb_matrix.specs.Values.{total, column_of, columns_of, matrix_of, empty_matrix, product}
use Rattle.cb_matrix.proofs.Made.{at-matrix_of, same_matrix_of}
use Rattle.cb_matrix.proofs.Totals.{value_at-value}
use Rattle.cb_matrix.proofs.Split.{total_parts}
use Rattle.cb_grid.specs.Parts.{part_start, part_length, part_shape}
use Rattle.cb_grid.specs.Blocks.{block_of}
use Rattle.cb_plan.specs.Algebras.{matrices}
use Rattle.cb_plan_parts.proofs.PartStarts.{start_zero, start_rises, start_within, start_last, map_below}
use Rattle.cb_plan_summa.specs.Summa.{result_shape, stages_sum}

-- ---- matrices without values
column_blank : (z : ℕ) (j m : ℕ) → column_of z (λ _ _. z) j m ≡ []
unfolding column_of
column_blank z j zero = refl
column_blank z j (suc m) = let e : (z == z) ≡ true = eq-eqb z z refl in rw (column_blank z j m, e) refl

columns_blank : (z : ℕ) (m n : ℕ) → columns_of z (λ _ _. z) m n ≡ []
unfolding columns_of
columns_blank z m zero = refl
columns_blank z m (suc n) = rw (columns_blank z m n, column_blank z n m) refl

total-nil : (s : Arithmetic) → total s [] ≡ s.zero
unfolding total
total-nil s = refl

module _ (s : Arithmetic) (laws : IsSemiring s) (q : ℕ) (pos : 0 < q) (a b : Sparse) (is_a : IsMatrix s a) (is_b : IsMatrix s b) (agree : a.shape.cols ≡ b.shape.rows) (i j : ℕ) where
  -- one product of the sum at a place of part (i, j)
  abbrev term : ℕ → ℕ → ℕ → ℕ
  term x y k = s.mul (at s a (part_start q a.shape.rows i + x) k) (at s b k (part_start q b.shape.cols j + y))

  term_value : (x y k : ℕ) → IsValue s (term x y k)
  term_value x y k = laws.mul_value (at s a (part_start q a.shape.rows i + x) k) (at s b k (part_start q b.shape.cols j + y)) (value_at-value s laws a.entries (part_start q a.shape.rows i + x) k is_a.values) (value_at-value s laws b.entries k (part_start q b.shape.cols j + y) is_b.values)

  abbrev shape : Extent
  shape = part_shape q (result_shape a.shape b.shape) i j

  -- part (i, j) of the product, of which only the inner parts before k are added
  abbrev partial : ℕ → Sparse
  partial k = matrix_of s shape (λ x y. total s (map (term x y) (range_with_len 0 (part_start q a.shape.cols k))))

  partial_none : empty_matrix shape ≡ partial 0
  partial_none =
      let e : part_start q a.shape.cols 0 ≡ 0 = start_zero q a.shape.cols in
      ap (λ es. record { shape = shape; entries = es }) (sym (columns_blank s.zero shape.rows shape.cols))
      ∙ same_matrix_of s shape (λ _ _. s.zero) (λ x y. total s (map (term x y) (range_with_len 0 (part_start q a.shape.cols 0)))) (λ x y l m. rw e (sym (total-nil s)))

  -- one inner part more
  partial_next : (k : ℕ) → (matrices s).mul_add (block_of s q a i k) (block_of s q b k j) (partial k) ≡ partial (k + 1)
  partial_next k =
      let left = block_of s q a i k in
      let right = block_of s q b k j in
      let d = a.shape.cols in
      let n = part_length q d k in
      same_matrix_of s shape
      (λ x y. s.add (at s (partial k) x y) (at s (product s left right) x y))
      (λ x y. total s (map (term x y) (range_with_len 0 (part_start q d (k + 1)))))
      (λ x y l m.
      let so_far : at s (partial k) x y ≡ total s (map (term x y) (range_with_len 0 (part_start q d k))) =
      at-matrix_of s shape (λ x y. total s (map (term x y) (range_with_len 0 (part_start q d k)))) x y l m in
      let more : at s (product s left right) x y ≡ total s (map (λ t. s.mul (at s left x t) (at s right t y)) (range_with_len 0 n)) =
      at-matrix_of s shape (λ x y. total s (map (λ t. s.mul (at s left x t) (at s right t y)) (range_with_len 0 n))) x y l m in
      let each : map (λ t. s.mul (at s left x t) (at s right t y)) (range_with_len 0 n) ≡ map (λ t. term x y (part_start q d k + t)) (range_with_len 0 n) =
      map_below (λ t. s.mul (at s left x t) (at s right t y)) (λ t. term x y (part_start q d k + t)) 0 n (λ t _ u.
      let v : t < n = omega arith in
      let w : t < part_length q b.shape.rows k = rw agree at v in
      ap (λ z. s.mul z (at s right t y)) (at-matrix_of s (record { rows = part_length q a.shape.rows i; cols = n }) (λ x t. at s a (part_start q a.shape.rows i + x) (part_start q d k + t)) x t l v)
      ∙ ap (s.mul (at s a (part_start q a.shape.rows i + x) (part_start q d k + t))) (at-matrix_of s (record { rows = part_length q b.shape.rows k; cols = part_length q b.shape.cols j }) (λ t y. at s b (part_start q b.shape.rows k + t) (part_start q b.shape.cols j + y)) t y w m
      ∙ ap (λ d. at s b (part_start q d k + t) (part_start q b.shape.cols j + y)) (sym agree))) in
      let join : part_start q d k + n ≡ part_start q d (k + 1) = let up = start_rises q d k in omega arith in
      ap (λ v. s.add v (at s (product s left right) x y)) so_far
      ∙ ap (s.add (total s (map (term x y) (range_with_len 0 (part_start q d k))))) (more ∙ ap (total s) each)
      ∙ sym (total_parts s laws (term x y) (term_value x y) (part_start q d k) n)
      ∙ ap (λ c. total s (map (term x y) (range_with_len 0 c))) join)

  partial_stages : (k : ℕ) → stages_sum (matrices s) (block_of s q a i) (λ t. block_of s q b t j) (empty_matrix shape) k ≡ partial k
  partial_stages zero = partial_none
  partial_stages (suc k) =
      let e : k + 1 ≡ suc k = omega arith in
      ap (λ acc. (matrices s).mul_add (block_of s q a i k) (block_of s q b k j) acc) (partial_stages k) ∙ partial_next k ∙ ap partial e

  partial_all : partial q ≡ block_of s q (product s a b) i j
  partial_all =
      same_matrix_of s shape (λ x y. total s (map (term x y) (range_with_len 0 (part_start q a.shape.cols q)))) (λ x y. at s (product s a b) (part_start q a.shape.rows i + x) (part_start q b.shape.cols j + y)) (λ x y l m.
      let r = start_within q a.shape.rows (i + 1) in
      let c = start_within q b.shape.cols (j + 1) in
      ap (λ n. total s (map (term x y) (range_with_len 0 n))) (start_last q a.shape.cols pos)
      ∙ sym (at-matrix_of s (result_shape a.shape b.shape) (λ x y. total s (map (λ k. s.mul (at s a x k) (at s b k y)) (range_with_len 0 a.shape.cols))) (part_start q a.shape.rows i + x) (part_start q b.shape.cols j + y) (omega arith) (omega arith)))

  -- what all stages add up to is the part of the product
  pub stages_make_product : stages_sum (matrices s) (block_of s q a i) (λ t. block_of s q b t j) (empty_matrix shape) q ≡ block_of s q (product s a b) i j
  stages_make_product = partial_stages q ∙ partial_all
