-- Entries below what is known of their rows.
use Rattle.std.proofs.Common.{◌≡◌, ◌≢◌, ℕ, ◌<◌, ◌≤◌, Bool, true, false, cond, ⊎_elim, List, [], ◌∷◌, length, subst, sym, refl, ◌∙◌, arith}
use Rattle.std.specs.Prelude.{filter, All, AllPairs, min, Some, None, unwrap_or}
use Rattle.std.specs.Ordering.{nat_cmp}
use Rattle.std.specs.BTreeMap.{get}
use Rattle.std.proofs.lemmas.Bool.{ltb-true, ltb-false, cases_eq, cases_lt, cond-true, cond-false}
use Rattle.std.proofs.lemmas.List.{get_or_past}
use Rattle.std.proofs.lemmas.List.Elements.{All-head, All-tail, All-weaker, All-filter}
use Rattle.std.proofs.lemmas.List.Kept.{AllPairs-filter}
use Rattle.cb_semirings.specs.Arithmetic.{Arithmetic, IsValue}
use Rattle.cb_semirings.specs.Tables.{min_plus}
use Rattle.cb_matrix.specs.declared.Entry.{Entry}
use Rattle.cb_matrix.specs.Sparse.{Sparse, IsMatrix, IsBefore, IsInside, value_at, at, is_at}
use Rattle.cb_matrix.proofs.Places.{NoneAt, is_at-own, value_at-none}
use Rattle.cb_matrix.proofs.Pairs.{AllPairs-head, AllPairs-tail}
use Rattle.cb_searches.specs.declared.numbers.Numbers.{Numbers}
use Rattle.cb_searches.specs.declared.numbers.Numbers.TheVariants.{Dense, Tree}
use Rattle.cb_searches.specs.Walks.{infinite}
use Rattle.cb_searches.specs.Numbers.{number_at, is_lower, AreNumbers}
use Rattle.cb_searches.proofs.TakenNumbers.{other_row}

-- the entries of a matrix that pass a test are a matrix
pub filtered_matrix : (s : Arithmetic) (m : Sparse) (p : Entry → Bool) → IsMatrix s m → IsMatrix s (record { shape = m.shape; entries = filter p m.entries })
filtered_matrix s m p is = record {
  ascending = AllPairs-filter IsBefore p m.entries is.ascending;
  inside = All-filter p (IsInside m.shape) m.entries is.inside;
  values = All-filter p (λ e. IsValue s e.value) m.entries is.values;
  not_zero = All-filter p (λ e. e.value ≢ s.zero) m.entries is.not_zero;
}

-- in a matrix of one column
module _ (s : Arithmetic) (m : Sparse) (is : IsMatrix s m) (one : m.shape.cols ≡ 1) where
  pub in_column : All (λ e. e.column ≡ 0) m.entries
  in_column k d l = let h = (is.inside k d l).1 in omega arith

  pub rows_apart : AllPairs (λ d e. d.row ≢ e.row) m.entries
  rows_apart i j d l k e = ⊎_elim (λ h. let a = in_column i d (omega arith) in let b = in_column j d k in omega arith) (λ h. omega (arith, h.1)) (is.ascending i j d l k)

-- each entry of weights is in a row of the matrix, and below infinity
pub entries_finite : (m : Sparse) → IsMatrix min_plus m → All (λ e. (e.row < m.shape.rows) × (e.value < infinite)) m.entries
entries_finite m is k d l = ((is.inside k d l).0, let a = is.values k d l in let b = is.not_zero k d l in omega arith)

-- what passes the test of being lower is at its places, and nothing else is there
module _ (known : Numbers) (z v : ℕ) (fits : number_at known v ≤ infinite) where
  abbrev Lower : ℕ → ℕ → Type 0
  Lower below now = (now < number_at known v → below ≡ now) × (number_at known v ≤ now → below ≡ z)

  pub lower_value : (es : List Entry) → AllPairs (λ d e. d.row ≢ e.row) es → All (λ e. e.column ≡ 0) es → Lower (value_at z (filter (is_lower known) es) v 0) (value_at infinite es v 0)
  unfolding value_at
  lower_value [] apart column = (λ l. omega arith, λ _. refl)
  lower_value (e ∷ es) apart column =
      let rest = lower_value es (AllPairs-tail (λ d e. d.row ≢ e.row) e es apart) (All-tail (λ e. e.column ≡ 0) e es column) in
      ⊎_elim
      (λ (h : e.row ≡ v).
      let here : is_at v 0 e ≡ true = is_at-own e v 0 (sym h) (sym (All-head (λ e. e.column ≡ 0) e es column)) in
      let none : NoneAt v 0 (filter (is_lower known) es) = All-filter (is_lower known) (λ x. is_at v 0 x ≡ false) es (All-weaker (λ x. e.row ≢ x.row) (λ x. is_at v 0 x ≡ false) (λ x n. other_row v x (λ q. n (h ∙ q))) es (AllPairs-head (λ d e. d.row ≢ e.row) e es apart)) in
      let now : cond (is_at v 0 e) e.value (value_at infinite es v 0) ≡ e.value = cond-true _ _ _ here in
      elim (is_lower known e) as (λ (b : Bool). is_lower known e ≡ b → Lower (value_at z (cond b (e ∷ filter (is_lower known) es) (filter (is_lower known) es)) v 0) (cond (is_at v 0 e) e.value (value_at infinite es v 0))) [
        | true ↦ λ t. let l : e.value < number_at known v = subst (λ (u : ℕ). e.value < number_at known u) h (ltb-true e.value (number_at known e.row) t) in (λ _. cond-true _ _ _ here ∙ sym now, λ m. absurd (omega (arith, now)))
        | false ↦ λ t. let l : number_at known v ≤ e.value = subst (λ (u : ℕ). number_at known u ≤ e.value) h (ltb-false e.value (number_at known e.row) t) in (λ m. absurd (omega (arith, now)), λ _. value_at-none z (filter (is_lower known) es) v 0 none)
      ] refl)
      (λ (n : e.row ≡ v → ⊥).
      let there : is_at v 0 e ≡ false = other_row v e (λ q. n (sym q)) in
      let now : cond (is_at v 0 e) e.value (value_at infinite es v 0) ≡ value_at infinite es v 0 = cond-false _ _ _ there in
      elim (is_lower known e) as (λ (b : Bool). Lower (value_at z (cond b (e ∷ filter (is_lower known) es) (filter (is_lower known) es)) v 0) (cond (is_at v 0 e) e.value (value_at infinite es v 0))) [
        | true ↦ rw (there) rest
        | false ↦ rw (there) rest
      ])
      (cases_eq e.row v)

-- a number is at most infinite
pub number_fits : (n : ℕ) (known : Numbers) → AreNumbers n known → (v : ℕ) → number_at known v ≤ infinite
number_fits n (Dense list) h v =
    ⊎_elim
    (λ (l : v < length list.items). h.1 v infinite l)
    (λ (l : length list.items ≤ v). let e = get_or_past list.items v infinite l in omega (arith, e))
    (cases_lt v (length list.items))
number_fits n (Tree tree) h v =
    elim (get nat_cmp tree v) as (λ o. get nat_cmp tree v ≡ o → unwrap_or o infinite ≤ infinite) [
      | None ↦ λ _. omega arith
      | Some x ↦ λ e. let k = (h v x e).1 in omega arith
    ] refl

-- the entries of a column that are below what is known
module _ (m : Sparse) (is : IsMatrix min_plus m) (one : m.shape.cols ≡ 1) (known : Numbers) (es : List Entry) (same : es ≡ filter (is_lower known) m.entries) where
  -- they are the entries of a column of the same shape
  pub lower_matrix : IsMatrix min_plus (record { shape = m.shape; entries = es })
  lower_matrix = subst (λ (xs : List Entry). IsMatrix min_plus (record { shape = m.shape; entries = xs })) (sym same) (filtered_matrix min_plus m (is_lower known) is)

  -- no two of them are in one row
  pub lower_apart : AllPairs (λ d e. d.row ≢ e.row) es
  lower_apart = rows_apart min_plus (record { shape = m.shape; entries = es }) lower_matrix one

  -- all of them are in column 0
  pub lower_column : All (λ e. e.column ≡ 0) es
  lower_column = in_column min_plus (record { shape = m.shape; entries = es }) lower_matrix one

  -- each is in a row of the column, and below infinity
  pub lower_finite : All (λ e. (e.row < m.shape.rows) × (e.value < infinite)) es
  lower_finite = entries_finite (record { shape = m.shape; entries = es }) lower_matrix

  module _ (fits : (v : ℕ) → number_at known v ≤ infinite) where
    values : (z v : ℕ) → Lower known z v (fits v) (value_at z es v 0) (at min_plus m v 0)
    values z v = subst (λ (xs : List Entry). Lower known z v (fits v) (value_at z xs v 0) (at min_plus m v 0)) (sym same) (lower_value known z v (fits v) m.entries (rows_apart min_plus m is one) (in_column min_plus m is one))

    -- put in the place of what is known, they give the lesser of what is known and the column's value
    pub lower_least : (v : ℕ) → value_at (number_at known v) es v 0 ≡ min (number_at known v) (at min_plus m v 0)
    lower_least v = let h = values (number_at known v) v in ⊎_elim (λ l. omega (arith, h.0 l)) (λ l. omega (arith, h.1 l)) (cases_lt (at min_plus m v 0) (number_at known v))

    -- if the column's value is below what is known, they have it
    pub lower_new : (v : ℕ) → at min_plus m v 0 < number_at known v → value_at infinite es v 0 ≡ at min_plus m v 0
    lower_new v = (values infinite v).0

    -- otherwise they have nothing
    pub lower_old : (v : ℕ) → number_at known v ≤ at min_plus m v 0 → value_at infinite es v 0 ≡ infinite
    lower_old v = (values infinite v).1
