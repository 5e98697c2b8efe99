-- The matrix that has given values.
use Rattle.std.proofs.Common.{◌≡◌, ◌≢◌, ℕ, suc, zero, ◌<◌, ◌≤◌, true, false, cond, inl, inr, ⊎_elim, List, [], ◌∷◌, ◌++◌, sym, refl, ap, ◌∙◌, arith}
use Rattle.std.specs.Prelude.{All, AllPairs, ◌==◌}
use Rattle.std.proofs.lemmas.Bool.{cases_lt, cond-true, eqb-true, eqb-false, false_from_ne_true}
use Rattle.std.proofs.lemmas.List.Elements.{All-cons, All-weaker, All-append, All-nil}
use Rattle.cb_semirings.specs.Arithmetic.{Arithmetic, IsValue}
use Rattle.cb_matrix.specs.declared.Entry.{Entry}
use Rattle.cb_matrix.specs.Sparse.{Sparse, Extent, IsMatrix, is_at, at, value_at, IsBefore, IsInside}
use Rattle.cb_matrix.specs.Values.{column_of, columns_of, matrix_of}
use Rattle.cb_matrix.proofs.Places.{is_at-own, is_at-parts}
use Rattle.cb_matrix.proofs.Same.{same_entries}
pub use Rattle.cb_matrix.proofs.Pairs.{AllPairs-nil, AllPairs-cons, AllPairs-append}
pub use Rattle.cb_matrix.proofs.Places.{NoneAt, value_at-none, value_at-append_left, value_at-append_right}

other_place : (i j : ℕ) (e : Entry) → (i ≡ e.row → j ≡ e.column → ⊥) → is_at i j e ≡ false
other_place i j e h = false_from_ne_true (is_at i j e) (λ t. let p = is_at-parts e i j t in h p.0 p.1)

module _ (z : ℕ) (f : ℕ → ℕ → ℕ) where
  abbrev made : ℕ → ℕ → Entry
  made i j = record { row = i; column = j; value = f i j }

  abbrev one : ℕ → ℕ → List Entry
  one i j = cond (f i j == z) [] (made i j ∷ [])

  one_all : (P : Entry → Type 0) (i j : ℕ) → (f i j ≢ z → P (made i j)) → All P (one i j)
  one_all P i j h =
      elim (f i j == z) as (λ b. (f i j == z) ≡ b → All P (cond b [] (made i j ∷ []))) [
        | true ↦ λ _. All-nil P
        | false ↦ λ n. All-cons P (made i j) [] (h (eqb-false (f i j) z n)) (All-nil P)
      ] refl

  one_value : (i j : ℕ) → value_at z (one i j) i j ≡ f i j
  unfolding value_at
  one_value i j =
      elim (f i j == z) as (λ b. (f i j == z) ≡ b → value_at z (cond b [] (made i j ∷ [])) i j ≡ f i j) [
        | true ↦ λ t. sym (eqb-true (f i j) z t)
        | false ↦ λ _. cond-true _ _ _ (is_at-own (made i j) i j refl refl)
      ] refl

  one_pairs : (i j : ℕ) → AllPairs IsBefore (one i j)
  one_pairs i j = elim (f i j == z) as (λ b. AllPairs IsBefore (cond b [] (made i j ∷ []))) [
    | true ↦ AllPairs-nil IsBefore
    | false ↦ AllPairs-cons IsBefore (made i j) [] (All-nil (IsBefore (made i j))) (AllPairs-nil IsBefore)
  ]

  -- what holds where f is not zero holds of each entry of a column
  pub column_all : (P : Entry → Type 0) (j m : ℕ) → ((i : ℕ) → i < m → f i j ≢ z → P (made i j)) → All P (column_of z f j m)
  unfolding column_of
  column_all P j zero h = All-nil P
  column_all P j (suc m) h = All-append P (column_of z f j m) (one m j) (column_all P j m (λ i l n. h i (omega arith) n)) (one_all P m j (λ n. h m (omega arith) n))

  -- and of all columns
  pub columns_all : (P : Entry → Type 0) (m n : ℕ) → ((i j : ℕ) → i < m → j < n → f i j ≢ z → P (made i j)) → All P (columns_of z f m n)
  unfolding columns_of
  columns_all P m zero h = All-nil P
  columns_all P m (suc n) h = All-append P (columns_of z f m n) (column_of z f n m) (columns_all P m n (λ i j l k ne. h i j l (omega arith) ne)) (column_all P n m (λ i l ne. h i n l (omega arith) ne))

  column_value : (j m i : ℕ) → i < m → value_at z (column_of z f j m) i j ≡ f i j
  unfolding column_of
  column_value j zero i l = absurd (omega arith)
  column_value j (suc m) i l =
      ⊎_elim
      (λ (k : i < m). value_at-append_left z (column_of z f j m) (one m j) i j (one_all (λ e. is_at i j e ≡ false) m j (λ _. other_place i j (made m j) (λ p q. omega arith))) ∙ column_value j m i k)
      (λ (k : m ≤ i).
      let e : i ≡ m = omega arith in
      value_at-append_right z (column_of z f j m) (one m j) i j (column_all (λ e. is_at i j e ≡ false) j m (λ r b _. other_place i j (made r j) (λ p q. omega arith)))
      ∙ rw e (one_value m j))
      (cases_lt i m)

  -- inside, there are the values of f
  pub columns_value : (m n i j : ℕ) → i < m → j < n → value_at z (columns_of z f m n) i j ≡ f i j
  unfolding columns_of
  columns_value m zero i j l k = absurd (omega arith)
  columns_value m (suc n) i j l k =
      ⊎_elim
      (λ (b : j < n). value_at-append_left z (columns_of z f m n) (column_of z f n m) i j (column_all (λ e. is_at i j e ≡ false) n m (λ r _ _. other_place i j (made r n) (λ p q. omega arith))) ∙ columns_value m n i j l b)
      (λ (b : n ≤ j).
      let e : j ≡ n = omega arith in
      value_at-append_right z (columns_of z f m n) (column_of z f n m) i j (columns_all (λ e. is_at i j e ≡ false) m n (λ r c _ d _. other_place i j (made r c) (λ p q. omega arith)))
      ∙ rw e (column_value n m i l))
      (cases_lt j n)

  column_pairs : (j m : ℕ) → AllPairs IsBefore (column_of z f j m)
  unfolding column_of
  column_pairs j zero = AllPairs-nil IsBefore
  column_pairs j (suc m) = AllPairs-append IsBefore (column_of z f j m) (one m j) (column_pairs j m) (one_pairs m j) (column_all (λ x. All (IsBefore x) (one m j)) j m (λ i l _. one_all (IsBefore (made i j)) m j (λ _. inr (refl, l))))

  -- the entries ascend
  pub columns_pairs : (m n : ℕ) → AllPairs IsBefore (columns_of z f m n)
  unfolding columns_of
  columns_pairs m zero = AllPairs-nil IsBefore
  columns_pairs m (suc n) = AllPairs-append IsBefore (columns_of z f m n) (column_of z f n m) (columns_pairs m n) (column_pairs n m) (columns_all (λ x. All (IsBefore x) (column_of z f n m)) m n (λ i j _ l _. column_all (IsBefore (made i j)) n m (λ _ _ _. inl l)))

-- outside the shape there is no value
pub at-outside : (z : ℕ) (shape : Extent) (es : List Entry) (i j : ℕ) → All (IsInside shape) es → (i < shape.rows → j < shape.cols → ⊥) → value_at z es i j ≡ z
at-outside z shape es i j inside out =
    value_at-none z es i j (All-weaker (IsInside shape) (λ e. is_at i j e ≡ false) (λ e k. other_place i j e (λ p q. out (rw p k.0) (rw q k.1))) es inside)

-- two matrices of one shape that have the same value at each place inside it are one
pub same_matrix : (s : Arithmetic) (a b : Sparse) → IsMatrix s a → IsMatrix s b → a.shape ≡ b.shape → ((i j : ℕ) → i < a.shape.rows → j < a.shape.cols → at s a i j ≡ at s b i j) → a ≡ b
same_matrix s a b p q e h =
    let same : a.entries ≡ b.entries = same_entries s.zero a.entries b.entries p.ascending q.ascending p.not_zero q.not_zero (λ i j.
    ⊎_elim
    (λ (l : i < a.shape.rows). ⊎_elim
    (λ (m : j < a.shape.cols). h i j l m)
    (λ (m : a.shape.cols ≤ j). at-outside s.zero a.shape a.entries i j p.inside (λ _ y. omega arith) ∙ sym (at-outside s.zero a.shape b.entries i j (rw e q.inside) (λ _ y. omega arith)))
    (cases_lt j a.shape.cols))
    (λ (l : a.shape.rows ≤ i). at-outside s.zero a.shape a.entries i j p.inside (λ x _. omega arith) ∙ sym (at-outside s.zero a.shape b.entries i j (rw e q.inside) (λ x _. omega arith)))
    (cases_lt i a.shape.rows)) in
    λ i. record { shape = e i; entries = same i }

-- the matrix of f has the value of f at each place inside
pub at-matrix_of : (s : Arithmetic) (shape : Extent) (f : ℕ → ℕ → ℕ) (i j : ℕ) → i < shape.rows → j < shape.cols → at s (matrix_of s shape f) i j ≡ f i j
at-matrix_of s shape f i j l k = columns_value s.zero f shape.rows shape.cols i j l k

-- it has the shape that was given
pub shape-matrix_of : (s : Arithmetic) (shape : Extent) (f : ℕ → ℕ → ℕ) → (matrix_of s shape f).shape ≡ shape
shape-matrix_of s shape f = refl

-- it is a matrix, where f has values of the semiring
pub IsMatrix-matrix_of : (s : Arithmetic) (shape : Extent) (f : ℕ → ℕ → ℕ) → ((i j : ℕ) → i < shape.rows → j < shape.cols → IsValue s (f i j)) → IsMatrix s (matrix_of s shape f)
IsMatrix-matrix_of s shape f h = record {
  ascending = columns_pairs s.zero f shape.rows shape.cols;
  inside = columns_all s.zero f (IsInside shape) shape.rows shape.cols (λ i j l k _. (l, k));
  values = columns_all s.zero f (λ e. IsValue s e.value) shape.rows shape.cols (λ i j l k _. h i j l k);
  not_zero = columns_all s.zero f (λ e. e.value ≢ s.zero) shape.rows shape.cols (λ i j _ _ n. n);
}

-- a matrix is the one that has its values
pub is_matrix_of : (s : Arithmetic) (m : Sparse) (shape : Extent) (f : ℕ → ℕ → ℕ) → IsMatrix s m → m.shape ≡ shape → ((i j : ℕ) → i < shape.rows → j < shape.cols → IsValue s (f i j)) → ((i j : ℕ) → i < shape.rows → j < shape.cols → at s m i j ≡ f i j) → m ≡ matrix_of s shape f
is_matrix_of s m shape f is e v h =
    same_matrix s m (matrix_of s shape f) is (IsMatrix-matrix_of s shape f v) (e ∙ sym (shape-matrix_of s shape f))
    (λ i j l k. let l' : i < shape.rows = rw e at l in let k' : j < shape.cols = rw e at k in h i j l' k' ∙ sym (at-matrix_of s shape f i j l' k'))

column_same : (z : ℕ) (f g : ℕ → ℕ → ℕ) (j m : ℕ) → ((i : ℕ) → i < m → f i j ≡ g i j) → column_of z f j m ≡ column_of z g j m
unfolding column_of
column_same z f g j zero h = refl
column_same z f g j (suc m) h =
    ap (λ es. es ++ cond (f m j == z) [] (record { row = m; column = j; value = f m j } ∷ [])) (column_same z f g j m (λ i l. h i (omega arith)))
    ∙ ap (λ (v : ℕ). column_of z g j m ++ cond (v == z) [] (record { row = m; column = j; value = v } ∷ [])) (h m (omega arith))

columns_same : (z : ℕ) (f g : ℕ → ℕ → ℕ) (m n : ℕ) → ((i j : ℕ) → i < m → j < n → f i j ≡ g i j) → columns_of z f m n ≡ columns_of z g m n
unfolding columns_of
columns_same z f g m zero h = refl
columns_same z f g m (suc n) h =
    ap (λ es. es ++ column_of z f n m) (columns_same z f g m n (λ i j l k. h i j l (omega arith)))
    ∙ ap (λ es. columns_of z g m n ++ es) (column_same z f g n m (λ i l. h i n l (omega arith)))

-- equal values make equal matrices
pub same_matrix_of : (s : Arithmetic) (shape : Extent) (f g : ℕ → ℕ → ℕ) → ((i j : ℕ) → i < shape.rows → j < shape.cols → f i j ≡ g i j) → matrix_of s shape f ≡ matrix_of s shape g
same_matrix_of s shape f g h = ap (λ (es : List Entry). record { shape = shape; entries = es }) (columns_same s.zero f g shape.rows shape.cols h)
