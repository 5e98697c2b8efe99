-- The sum of a square matrix and its transpose has each entry in both directions.
use Rattle.std.proofs.Common.{◌≡◌, ℕ, ◌<◌, ◌≤◌, ◌⊎◌, inl, inr, ◌≢◌, ⊎_elim, ap, ◌∙◌, arith}
use Rattle.std.specs.Prelude.{max}
use Rattle.std.proofs.lemmas.Bool.{cases_eq, cases_lt}
use Rattle.cb_semirings.specs.Tables.{or_and}
use Rattle.cb_semirings.specs.Laws.{or_and_is_semiring}
use Rattle.cb_matrix.specs.Sparse.{Sparse, Extent, IsMatrix, at}
use Rattle.cb_matrix.specs.Operations.{transposed}
use Rattle.cb_matrix.proofs.Made.{at-matrix_of, at-outside, shape-matrix_of, same_matrix, IsMatrix-matrix_of}
use Rattle.cb_matrix.proofs.Totals.{value_at-value}
use Rattle.cb_graphs.specs.Components.{undirected, IsUndirected}

module _ (a : Sparse) (is : IsMatrix or_and a) (square : a.shape.rows ≡ a.shape.cols) where
  bit : (i j : ℕ) → at or_and a i j < 2
  bit i j = value_at-value or_and or_and_is_semiring a.entries i j is.values

  turned_at : (i j : ℕ) → i < a.shape.rows → j < a.shape.rows → at or_and (transposed or_and a) i j ≡ at or_and a j i
  turned_at i j l k = at-matrix_of or_and (record { rows = a.shape.cols; cols = a.shape.rows }) (λ i j. at or_and a j i) i j (omega (arith, square)) k

  -- its values
  undirected_at : (i j : ℕ) → i < a.shape.rows → j < a.shape.rows → at or_and (undirected a) i j ≡ max (at or_and a i j) (at or_and a j i)
  undirected_at i j l k =
      at-matrix_of or_and a.shape (λ i j. max (at or_and a i j) (at or_and (transposed or_and a) i j)) i j l (omega (arith, square))
      ∙ (λ t. max (at or_and a i j) (turned_at i j l k t))

  -- it is a matrix
  pub undirected_matrix : IsMatrix or_and (undirected a)
  undirected_matrix = IsMatrix-matrix_of or_and a.shape (λ i j. max (at or_and a i j) (at or_and (transposed or_and a) i j)) (λ i j l k.
      let m : j < a.shape.rows = omega (arith, square) in
      omega (arith, bit i j, turned_at i j l m, bit j i))

  outside : (i j : ℕ) → (i < a.shape.rows → j < a.shape.cols → ⊥) → at or_and (undirected a) i j ≡ 0
  outside i j h = at-outside 0 a.shape (undirected a).entries i j undirected_matrix.inside h

  -- each entry has one in the other direction
  pub undirected_both : IsUndirected (undirected a)
  undirected_both u v some =
      ⊎_elim
      (λ (l : u < a.shape.rows). ⊎_elim
      (λ (k : v < a.shape.rows). λ none. some (omega (arith, none, undirected_at u v l k, undirected_at v u k l)))
      (λ (k : a.shape.rows ≤ v). absurd (some (outside u v (λ _ m. omega (arith, square)))))
      (cases_lt v a.shape.rows))
      (λ (l : a.shape.rows ≤ u). absurd (some (outside u v (λ m _. omega arith))))
      (cases_lt u a.shape.rows)

  -- if each entry has one in the other direction already, the sum is the matrix
  pub undirected_same : IsUndirected a → undirected a ≡ a
  undirected_same both =
      same_matrix or_and (undirected a) a undirected_matrix is (shape-matrix_of or_and a.shape (λ i j. max (at or_and a i j) (at or_and (transposed or_and a) i j)))
      (λ i j l k.
      let e : (undirected a).shape ≡ a.shape = shape-matrix_of or_and a.shape (λ i j. max (at or_and a i j) (at or_and (transposed or_and a) i j)) in
      let li : i < a.shape.rows = omega (arith, l, ap (λ (x : Extent). x.rows) e) in
      let lj : j < a.shape.rows = omega (arith, k, square, ap (λ (x : Extent). x.cols) e) in
      undirected_at i j li lj ∙ ⊎_elim
      (λ (none : at or_and a i j ≡ 0). ⊎_elim
      (λ (back : at or_and a j i ≡ 0). omega (arith, none, back))
      (λ (some : at or_and a j i ≡ 0 → ⊥). absurd (both j i some none))
      (cases_eq (at or_and a j i) 0))
      (λ (some : at or_and a i j ≡ 0 → ⊥). omega (arith, some, bit i j, bit j i))
      (cases_eq (at or_and a i j) 0))

  none_either_way : (u v : ℕ) → at or_and a u v ≡ 0 → at or_and a v u ≡ 0 → at or_and (undirected a) u v ≡ 0
  none_either_way u v there back =
      ⊎_elim
      (λ (l : u < a.shape.rows). ⊎_elim
      (λ (k : v < a.shape.rows). omega (arith, there, back, undirected_at u v l k))
      (λ (k : a.shape.rows ≤ v). outside u v (λ _ m. omega (arith, square)))
      (cases_lt v a.shape.rows))
      (λ (l : a.shape.rows ≤ u). outside u v (λ m _. omega arith))
      (cases_lt u a.shape.rows)

  -- each entry of the sum is one in either direction
  pub either_way : (u v : ℕ) → at or_and (undirected a) u v ≢ 0 → (at or_and a u v ≢ 0) ⊎ (at or_and a v u ≢ 0)
  either_way u v some =
      ⊎_elim
      (λ (none : at or_and a u v ≡ 0). inr (λ back. some (none_either_way u v none back)))
      (λ (there : at or_and a u v ≡ 0 → ⊥). inl there)
      (cases_eq (at or_and a u v) 0)

  -- each entry is one of the sum
  pub one_way : (u v : ℕ) → at or_and a u v ≢ 0 → at or_and (undirected a) u v ≢ 0
  one_way u v some none =
      ⊎_elim
      (λ (l : u < a.shape.rows). ⊎_elim
      (λ (k : v < a.shape.rows). some (omega (arith, none, undirected_at u v l k)))
      (λ (k : a.shape.rows ≤ v). some (at-outside 0 a.shape a.entries u v is.inside (λ _ m. omega (arith, square))))
      (cases_lt v a.shape.rows))
      (λ (l : a.shape.rows ≤ u). some (at-outside 0 a.shape a.entries u v is.inside (λ m _. omega arith)))
      (cases_lt u a.shape.rows)
