-- The sums of the columns that have entries, one after another.
use Rattle.std.proofs.Common.{◌≡◌, ◌≢◌, ℕ, ◌+◌, ◌<◌, ◌≤◌, Bool, true, false, not, cond, List, [], ◌∷◌, ◌++◌, length, map, filter, take, get_or, sym, refl, ap, subst, ◌∙◌, arith}
use Rattle.std.specs.Prelude.{All, AllPairs, ◌==◌}
use Rattle.std.specs.List.{flat_map}
use Rattle.std.proofs.lemmas.Bool.{eqb-true, eqb-false, eq-eqb, ne_eqb}
use Rattle.std.proofs.lemmas.List.{append-nil, take_more, take_all, get_or-take, length-map, length-take-le}
use Rattle.std.proofs.lemmas.List.Concat.{flat_map-append}
use Rattle.std.proofs.lemmas.List.Elements.{All-nil, All-cons, All-head, All-tail, All-append, All-filter, All-from_get_or, All-map, All-weaker, filter_passes}
use Rattle.std.proofs.lemmas.List.Kept.{AllPairs-filter}
use Rattle.cb_semirings.specs.Arithmetic.{Arithmetic, IsSemiring, IsValue}
use Rattle.cb_matrix.specs.declared.Entry.{Entry}
use Rattle.cb_matrix.specs.Sparse.{Sparse, IsMatrix, value_at, is_at}
use Rattle.cb_matrix.specs.Values.{total}
use Rattle.cb_matrix.specs.Operations.{column_sums}
use Rattle.cb_matrix.proofs.Pairs.{AllPairs-head, AllPairs-tail}
use Rattle.cb_matrix.proofs.Places.{is_at-own, value_at-append_left, value_at-append_right}
use Rattle.cb_matrix.proofs.Stored.{stored_all, stored_value, value_at-one}
use Rattle.cb_matrix.proofs.Totals.{total-nil}
use Rattle.cb_matrix.proofs.Equal.{matrix_is}
use Rattle.cb_dcsc.specs.Columns.{in_column, values_of, columns_with_entries}
use Rattle.cb_dcsc.proofs.ColumnEntries.{in_column-none}
use Rattle.cb_dcsc.proofs.NumbersOfColumns.{entries_all}
use Rattle.cb_dcsc.specs.Compressed.{entries_in_row}
use Rattle.cb_reshape.specs.Sums.{sum_at}
use Rattle.cb_reshape.proofs.StoredSums.{column_total}

module _ (s : Arithmetic) (t : ℕ → ℕ) where
  -- an entry for each listed column, with the value of t unless it is zero
  abbrev pub sums_at : List ℕ → List Entry
  sums_at cs = flat_map (λ c. sum_at s c (t c)) cs

  abbrev entry : ℕ → Entry
  entry c = record { row = 0; column = c; value = t c }

  -- what holds of each listed column's entry holds of all entries
  all_sums : (P : Entry → Type 0) (cs : List ℕ) → All (λ c. P (entry c)) cs → All P (sums_at cs)
  all_sums P [] h = All-nil P
  all_sums P (c ∷ cs) h =
      All-append P (sum_at s c (t c)) (sums_at cs) (stored_all s.zero P (entry c) (λ _. All-head (λ c. P (entry c)) c cs h)) (all_sums P cs (All-tail (λ c. P (entry c)) c cs h))

  not_there : (c j : ℕ) → c ≢ j → is_at 0 j (entry c) ≡ false
  not_there c j ne = ne_eqb c j ne

  -- the value in each column is that of t, if t is zero in columns that aren't listed
  pub sums_value : (cs : List ℕ) (j : ℕ) → AllPairs (λ c d. c < d) cs → (All (λ c. c ≢ j) cs → t j ≡ s.zero) → value_at s.zero (sums_at cs) 0 j ≡ t j
  unfolding value_at
  sums_value [] j up none = sym (none (All-nil (λ c. c ≢ j)))
  sums_value (c ∷ cs) j up none =
      elim (c == j) as (λ b. (c == j) ≡ b → value_at s.zero (sums_at (c ∷ cs)) 0 j ≡ t j) [
        | true ↦ λ h.
            let e : c ≡ j = eqb-true c j h in
            let later : All (λ d. is_at 0 j (entry d) ≡ false) cs = All-weaker (λ d. c < d) (λ d. is_at 0 j (entry d) ≡ false) (λ d l. not_there d j (let ne : d ≢ j = omega arith in ne)) cs (AllPairs-head (λ c d. c < d) c cs up) in
            value_at-append_left s.zero (sum_at s c (t c)) (sums_at cs) 0 j (all_sums (λ x. is_at 0 j x ≡ false) cs later)
            ∙ stored_value s.zero (entry c) 0 j
            ∙ value_at-one s.zero (entry c) 0 j (is_at-own (entry c) 0 j refl (sym e))
            ∙ ap t e
        | false ↦ λ h.
            let ne : c ≢ j = eqb-false c j h in
            value_at-append_right s.zero (sum_at s c (t c)) (sums_at cs) 0 j (stored_all s.zero (λ x. is_at 0 j x ≡ false) (entry c) (λ _. not_there c j ne))
            ∙ sums_value cs j (AllPairs-tail (λ c d. c < d) c cs up) (λ k. none (All-cons (λ c. c ≢ j) c cs ne k))
      ] refl

  -- one more column
  pub sums_more : (cs : List ℕ) (n : ℕ) → n < length cs → sums_at (take (n + 1) cs) ≡ sums_at (take n cs) ++ sum_at s (get_or cs n 0) (t (get_or cs n 0))
  sums_more cs n l =
      ap sums_at (take_more cs n 0 l) ∙ flat_map-append (λ c. sum_at s c (t c)) (take n cs) (get_or cs n 0 ∷ [])
      ∙ ap (λ xs. sums_at (take n cs) ++ xs) (append-nil (sum_at s (get_or cs n 0) (t (get_or cs n 0))))

  -- the entries so far are before the next column
  pub sums_before : (cs : List ℕ) (n : ℕ) → AllPairs (λ c d. c < d) cs → n < length cs → All (λ e. e.column < get_or cs n 0) (sums_at (take n cs))
  sums_before cs n up l =
      all_sums (λ e. e.column < get_or cs n 0) (take n cs)
      (All-from_get_or (λ c. c < get_or cs n 0) (take n cs) 0 (λ k m.
      let size = length-take-le n cs (omega arith) in
      let below : k < n = omega arith in
      subst (λ c. c < get_or cs n 0) (sym (get_or-take n cs k 0 below)) (up k n 0 below l)))

-- the sum of the values stored in a column
abbrev pub stored_total : Arithmetic → List Entry → ℕ → ℕ
stored_total s es c = total s (values_of (in_column c es))

-- ---- the columns whose sum isn't zero
-- whether the value of t isn't zero
abbrev pub is_stored : Arithmetic → (ℕ → ℕ) → ℕ → Bool
is_stored s t c = not (t c == s.zero)

-- these columns and their values have the entries
pub sums_in_row : (s : Arithmetic) (t : ℕ → ℕ) (cs : List ℕ) → entries_in_row 0 (filter (is_stored s t) cs) (map t (filter (is_stored s t) cs)) ≡ sums_at s t cs
unfolding entries_in_row
sums_in_row s t [] = refl
sums_in_row s t (c ∷ cs) =
    let kept = filter (is_stored s t) cs in
    elim (t c == s.zero) as (λ b. entries_in_row 0 (cond (not b) (c ∷ kept) kept) (map t (cond (not b) (c ∷ kept) kept)) ≡ cond b [] (record { row = 0; column = c; value = t c } ∷ []) ++ sums_at s t cs) [
      | true ↦ sums_in_row s t cs
      | false ↦ ap (λ es. record { row = 0; column = c; value = t c } ∷ es) (sums_in_row s t cs)
    ]

-- what is required of them for a block of one row
pub record AreRow (s : Arithmetic) (cols : ℕ) (columns sums : List ℕ) : Type 0 where
  pub lengths : length sums ≡ length columns
  pub ascending : AllPairs (λ c d. c < d) columns
  pub inside : All (λ c. c < cols) columns
  pub values : All (IsValue s) sums
  pub not_zero : All (λ v. v ≢ s.zero) sums

pub are_row : (s : Arithmetic) (t : ℕ → ℕ) (cols : ℕ) (cs columns sums : List ℕ) → AllPairs (λ c d. c < d) cs → All (λ c. c < cols) cs → ((c : ℕ) → IsValue s (t c)) → columns ≡ filter (is_stored s t) cs → sums ≡ map t columns → AreRow s cols columns sums
are_row s t cols cs columns sums up inside values is are =
    let kept = filter (is_stored s t) cs in
    let stored : All (λ c. t c ≢ s.zero) kept = All-weaker (λ c. is_stored s t c ≡ true) (λ c. t c ≢ s.zero) (λ c p e. true_false (sym p ∙ ap not (eq-eqb (t c) s.zero e))) kept (filter_passes (is_stored s t) cs) in
    let all : AreRow s cols kept (map t kept) = record {
      lengths = length-map kept t;
      ascending = AllPairs-filter (λ c d. c < d) (is_stored s t) cs up;
      inside = All-filter (is_stored s t) (λ c. c < cols) cs inside;
      values = All-map (IsValue s) t kept (λ k d l. values (get_or kept k d));
      not_zero = All-map (λ v. v ≢ s.zero) t kept stored;
    } in
    let both = are ∙ ap (map t) is in
    rw (is, both) all
  where
    true_false : true ≡ false → ⊥
    true_false e = cc

-- the sums of all columns with entries are the column sums of the matrix
pub all_sums_are : (s : Arithmetic) → IsSemiring s → (a sums : Sparse) (cs : List ℕ) (n : ℕ) → IsMatrix s a → IsMatrix s sums → cs ≡ columns_with_entries a.entries → AllPairs (λ c d. c < d) cs → length cs ≤ n →
    sums ≡ record { shape = record { rows = 1; cols = a.shape.cols }; entries = sums_at s (stored_total s a.entries) (take n cs) } → sums ≡ column_sums s a
all_sums_are s laws a sums cs n is_a is_sums are up l so_far =
    let t : ℕ → ℕ = stored_total s a.entries in
    let all : sums.entries ≡ sums_at s t cs = ap (λ (m : Sparse). m.entries) so_far ∙ ap (sums_at s t) (take_all n cs l) in
    matrix_is s laws sums (record { rows = 1; cols = a.shape.cols }) (λ i j. _) is_sums (ap (λ (m : Sparse). m.shape) so_far)
    (λ i j h k.
    let e : i ≡ 0 = omega arith in
    ap (λ es. value_at s.zero es i j) all
    ∙ ap (λ x. value_at s.zero (sums_at s t cs) x j) e
    ∙ sums_value s t cs j up (λ none.
    ap (λ (es : List Entry). total s (values_of es)) (in_column-none j a.entries (entries_all (λ c. c ≢ j) a.entries (subst (All (λ c. c ≢ j)) are none)))
    ∙ total-nil s laws)
    ∙ sym (column_total s laws a is_a j))
