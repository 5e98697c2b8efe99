-- A matrix of which the columns in a range alone are made, one after another; the others are empty.
use Rattle.std.proofs.Common.{◌≡◌, ℕ, ◌+◌, ◌<◌, ◌≤◌, sym, ◌∙◌, arith}
use Rattle.std.proofs.lemmas.Bool.{cond-true, cond-false}
use Rattle.cb_semirings.specs.Arithmetic.{Arithmetic, IsSemiring}
use Rattle.cb_matrix.specs.Sparse.{Sparse, Extent, IsMatrix}
use Rattle.cb_matrix.specs.Values.{matrix_of, empty_matrix}
use Rattle.cb_matrix.proofs.Made.{same_matrix_of}
use Rattle.cb_operations.specs.Regions.{where_true}
use Rattle.cb_product.proofs.StoredColumn.{AddsColumn}
use Rattle.cb_product.proofs.ColumnsMade.{IsMadeTo, made_none, made_past, made_more, made_all}
use Rattle.cb_reshape.proofs.Within.{row_in, row_out}
use Rattle.cb_selections.specs.Extracted.{is_between}

module _ (s : Arithmetic) (extent : Extent) (f : ℕ → ℕ → ℕ) (first end : ℕ) where
  -- the values of f in these columns, and zero in all others
  abbrev pub ranged : ℕ → ℕ → ℕ
  ranged i j = where_true s.zero (is_between first end j) (f i j)

  out_of : (i j : ℕ) → (first ≤ j → j < end → ⊥) → ranged i j ≡ s.zero
  out_of i j out = cond-false (is_between first end j) (f i j) s.zero (row_out (first, end) j out)

  within : (i j : ℕ) → first ≤ j → j < end → ranged i j ≡ f i j
  within i j l m = cond-true (is_between first end j) (f i j) s.zero (row_in (first, end) j l m)

  -- none of them yet
  pub ranged_none : (out : Sparse) → IsMatrix s out → out ≡ empty_matrix extent → IsMadeTo s extent ranged first out
  ranged_none out is e = made_past s extent ranged out 0 first (omega arith) (λ i j l m. out_of i j (λ a b. omega arith)) (made_none s extent ranged out is e)

  -- one more
  pub ranged_more : (old new : Sparse) (n : ℕ) (g : ℕ → ℕ) → first ≤ n → n < end → AddsColumn s n g old new → ((i : ℕ) → g i ≡ f i n) → IsMadeTo s extent ranged n old → IsMadeTo s extent ranged (n + 1) new
  ranged_more old new n g l m adds same h = made_more s extent ranged old new n g adds (λ i. same i ∙ sym (within i n l m)) h

  -- all
  pub ranged_all : IsSemiring s → (out : Sparse) (n : ℕ) → end ≤ n → n ≤ extent.cols → IsMadeTo s extent ranged n out → out ≡ matrix_of s extent ranged
  ranged_all laws out n l m h = made_all s extent ranged laws out (made_past s extent ranged out n extent.cols m (λ i j a b. out_of i j (λ x y. omega arith)) h)

  -- a range of all columns leaves none empty
  pub ranged_whole : first ≡ 0 → end ≡ extent.cols → matrix_of s extent ranged ≡ matrix_of s extent f
  ranged_whole start whole = same_matrix_of s extent ranged f (λ i j l m. within i j (omega arith) (omega arith))
