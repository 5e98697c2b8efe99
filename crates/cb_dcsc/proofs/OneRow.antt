-- The entries of one row as a block: each column that has entries has one.
use Rattle.std.proofs.Common.{◌≡◌, ◌≢◌, ℕ, zero, suc, ◌+◌, ◌-◌, ◌<◌, ◌≤◌, inl, List, [], ◌∷◌, ◌++◌, length, take, drop, get_or, replicate, sym, refl, ap, ◌∙◌, subst, arith, length-take}
use Rattle.std.specs.Prelude.{All, AllPairs, slice_range}
use Rattle.std.proofs.lemmas.List.{take_more, take_all, get_or-replicate, length-replicate}
use Rattle.std.proofs.lemmas.List.Elements.{All-head, All-tail, All-cons, All-nil}
use Rattle.cb_semirings.specs.Arithmetic.{Arithmetic, IsValue}
use Rattle.cb_matrix.specs.declared.Entry.{Entry}
use Rattle.cb_matrix.specs.Sparse.{Extent, IsMatrix, IsBefore, IsInside}
use Rattle.cb_matrix.specs.Values.{empty_matrix}
use Rattle.cb_matrix.proofs.Pairs.{AllPairs-nil, AllPairs-cons, AllPairs-head, AllPairs-tail}
use Rattle.cb_dcsc.specs.Compressed.{IsBlock, all_entries, entries_in, entries_in_row, piece, pieces}

-- ---- the entries
-- a column and a value more make an entry more
row-push : (i : ℕ) (js vs : List ℕ) (j v : ℕ) → length vs ≡ length js → entries_in_row i (js ++ j ∷ []) (vs ++ v ∷ []) ≡ entries_in_row i js vs ++ record { row = i; column = j; value = v } ∷ []
unfolding entries_in_row
row-push i [] [] j v e = refl
row-push i [] (w ∷ vs) j v e = absurd (omega arith)
row-push i (k ∷ js) [] j v e = absurd (omega arith)
row-push i (k ∷ js) (w ∷ vs) j v e = ap (λ es. record { row = i; column = k; value = w } ∷ es) (row-push i js vs j v (omega arith))

-- what follows of the column and the value of each entry holds of all entries
row_all : (P : Entry → Type 0) (Q R : ℕ → Type 0) (i : ℕ) (js vs : List ℕ) → ((j v : ℕ) → Q j → R v → P (record { row = i; column = j; value = v })) → All Q js → All R vs → All P (entries_in_row i js vs)
unfolding entries_in_row
row_all P Q R i [] vs f q r = All-nil P
row_all P Q R i (j ∷ js) [] f q r = All-nil P
row_all P Q R i (j ∷ js) (v ∷ vs) f q r =
    All-cons P (record { row = i; column = j; value = v }) (entries_in_row i js vs) (f j v (All-head Q j js q) (All-head R v vs r)) (row_all P Q R i js vs f (All-tail Q j js q) (All-tail R v vs r))

-- they ascend with their columns
row_ascends : (i : ℕ) (js vs : List ℕ) → AllPairs (λ c d. c < d) js → AllPairs IsBefore (entries_in_row i js vs)
unfolding entries_in_row
row_ascends i [] vs up = AllPairs-nil IsBefore
row_ascends i (j ∷ js) [] up = AllPairs-nil IsBefore
row_ascends i (j ∷ js) (v ∷ vs) up =
    let e : Entry = record { row = i; column = j; value = v } in
    AllPairs-cons IsBefore e (entries_in_row i js vs)
    (row_all (IsBefore e) (λ c. j < c) (λ w. w ≡ w) i js vs (λ c w l _. inl l) (AllPairs-head (λ c d. c < d) j js up) (λ k d l. refl))
    (row_ascends i js vs (AllPairs-tail (λ c d. c < d) j js up))

-- they are a matrix
pub row_matrix : (s : Arithmetic) (shape : Extent) (i : ℕ) (js vs : List ℕ) → i < shape.rows → AllPairs (λ c d. c < d) js → All (λ c. c < shape.cols) js → All (IsValue s) vs → All (λ v. v ≢ s.zero) vs
    → IsMatrix s (record { shape = shape; entries = entries_in_row i js vs })
row_matrix s shape i js vs row up columns values not_zero = record {
  ascending = row_ascends i js vs up;
  inside = row_all (IsInside shape) (λ c. c < shape.cols) (λ w. w ≡ w) i js vs (λ c w l _. (row, l)) columns (λ k d l. refl);
  values = row_all (λ e. IsValue s e.value) (λ c. c ≡ c) (IsValue s) i js vs (λ c w _ v. v) (λ k d l. refl) values;
  not_zero = row_all (λ e. e.value ≢ s.zero) (λ c. c ≡ c) (λ v. v ≢ s.zero) i js vs (λ c w _ n. n) (λ k d l. refl) not_zero;
}

-- without columns there are none
pub row_none : (shape : Extent) (i : ℕ) (js vs : List ℕ) → length js ≡ 0 → empty_matrix shape ≡ record { shape = shape; entries = entries_in_row i js vs }
unfolding entries_in_row
row_none shape i [] vs e = refl
row_none shape i (j ∷ js) vs e = absurd (omega arith)

-- ---- the lists
-- the element at one place
one_at : (xs : List ℕ) (k : ℕ) → k < length xs → slice_range xs k (k + 1) ≡ get_or xs k 0 ∷ []
one_at [] k l = absurd (omega arith)
one_at (x ∷ xs) zero l = refl
one_at (x ∷ xs) (suc k) l =
    let size : suc k + 1 - suc k ≡ k + 1 - k = omega arith in
    ap (λ n. take n (drop k xs)) size ∙ one_at xs k (omega arith)

module _ (i : ℕ) (js ss rs vs : List ℕ) (same : length vs ≡ length js) (long : length ss ≡ length js + 1) (numbers : (k : ℕ) → k ≤ length js → get_or ss k 0 ≡ k) (rows : rs ≡ replicate (length js) i) where
  count_rows : length rs ≡ length js
  count_rows = ap length rows ∙ length-replicate (length js) i

  -- each column has its entry
  row_piece : (k : ℕ) → k < length js → piece js ss rs vs k ≡ record { row = i; column = get_or js k 0; value = get_or vs k 0 } ∷ []
  unfolding entries_in
  row_piece k l =
      let count = count_rows in
      let start = numbers k (omega arith) in
      let end = numbers (k + 1) (omega arith) in
      let row : slice_range rs (get_or ss k 0) (get_or ss (k + 1) 0) ≡ i ∷ [] =
      (λ t. slice_range rs (start t) (end t)) ∙ one_at rs k (omega arith) ∙ ap (λ xs. get_or xs k 0 ∷ []) rows ∙ ap (λ x. x ∷ []) (get_or-replicate (length js) k i 0 l) in
      let value : slice_range vs (get_or ss k 0) (get_or ss (k + 1) 0) ≡ get_or vs k 0 ∷ [] = (λ t. slice_range vs (start t) (end t)) ∙ one_at vs k (omega arith) in
      λ t. entries_in (get_or js k 0) (row t) (value t)

  row_pieces : (n : ℕ) → n ≤ length js → pieces (piece js ss rs vs) n ≡ entries_in_row i (take n js) (take n vs)
  unfolding pieces entries_in_row
  row_pieces zero l = refl
  row_pieces (suc n) l =
      let next : n + 1 ≡ suc n = omega arith in
      let j = get_or js n 0 in
      let v = get_or vs n 0 in
      let sizes : length (take n vs) ≡ length (take n js) = simp length-take (omega arith) in
      let columns : take n js ++ j ∷ [] ≡ take (suc n) js = sym (take_more js n 0 (omega arith)) ∙ ap (λ k. take k js) next in
      let values : take n vs ++ v ∷ [] ≡ take (suc n) vs = sym (take_more vs n 0 (omega arith)) ∙ ap (λ k. take k vs) next in
      ap (λ es. es ++ piece js ss rs vs n) (row_pieces n (omega arith))
      ∙ ap (λ es. entries_in_row i (take n js) (take n vs) ++ es) (row_piece n (omega arith))
      ∙ sym (row-push i (take n js) (take n vs) j v sizes)
      ∙ (λ t. entries_in_row i (columns t) (values t))

  -- all columns have the entries of the row
  pub row_entries : all_entries js ss rs vs ≡ entries_in_row i js vs
  row_entries = row_pieces (length js) (omega arith) ∙ (λ t. entries_in_row i (take_all (length js) js (omega arith) t) (take_all (length js) vs (omega arith) t))

  -- and are a block
  pub row_block : (s : Arithmetic) (shape : Extent) → 0 < length js → i < shape.rows → AllPairs (λ c d. c < d) js → All (λ c. c < shape.cols) js → All (IsValue s) vs → All (λ v. v ≢ s.zero) vs → IsBlock s shape js ss rs vs
  row_block s shape some row up columns values not_zero =
      let count = count_rows in
      record {
        lists = record {
          ascending = up;
          no_starts = λ z. absurd (omega arith);
          one_more_start = λ _. long;
          first = numbers 0 (omega arith);
          rising = λ k l. let a = numbers k (omega arith) in let b = numbers (k + 1) (omega arith) in omega arith;
          last = numbers (length js) (omega arith) ∙ sym count;
          same_length = same ∙ sym count;
        };
        matrix = subst (λ (es : List Entry). IsMatrix s (record { shape = shape; entries = es })) (sym row_entries) (row_matrix s shape i js vs row up columns values not_zero);
      }
