-- Columns without their entries in excluded rows.
use Rattle.std.specs.Prelude.{ℕ, ◌<◌, ◌==◌, cond, List, Option, slice_index}
use Rattle.cb_semirings.specs.Arithmetic.{Arithmetic}
use Rattle.cb_matrix.specs.Sparse.{Sparse}
use Rattle.cb_product.specs.declared.terms.Term.{Term}
use Rattle.cb_product.specs.InColumns.{is_among}
use Rattle.cb_product.specs.Marks.{mark_of}
use Rattle.cb_product.specs.SparseColumn.{scaled_at}
use Rattle.cb_product.specs.Terms.{terms_at, terms_value, column_sum}

-- f at the rows that aren't excluded, and z at those that are
abbrev pub outside : ℕ → List ℕ → (ℕ → ℕ) → ℕ → ℕ
outside z excluded f i = cond (is_among excluded i) z (f i)

-- f at the rows that words of marks don't mark, and z at those that they mark
abbrev pub unmarked : ℕ → List ℕ → (ℕ → ℕ) → ℕ → ℕ
unmarked z words f i = cond (mark_of words i == 1) z (f i)

-- the sum of these columns of a matrix, each times its factor, at the rows that aren't excluded
abbrev pub sum_outside : Arithmetic → Sparse → List ℕ → List ℕ → List ℕ → ℕ → ℕ
sum_outside s a excluded inner factors = outside s.zero excluded (λ i. column_sum s a i inner factors)

-- the sum of terms of a matrix at the rows that words of marks don't mark
abbrev pub sum_unmarked : Arithmetic → Sparse → List ℕ → List Term → ℕ → ℕ
sum_unmarked s a words ts = unmarked s.zero words (λ i. terms_at s a i ts)

-- the sum of terms of a matrix at the rows that aren't excluded
abbrev pub terms_outside : Arithmetic → Sparse → List ℕ → List Term → ℕ → ℕ
terms_outside s a excluded ts = outside s.zero excluded (λ i. terms_at s a i ts)

-- the sum of terms of rows and values at the rows that words of marks don't mark
abbrev pub terms_unmarked : Arithmetic → List ℕ → List ℕ → List ℕ → List Term → ℕ → ℕ
terms_unmarked s words rows values ts = unmarked s.zero words (λ i. terms_value s rows values i ts)

-- a column, times a factor if there is one, at those rows
abbrev pub scaled_unmarked : Arithmetic → List ℕ → List ℕ → List ℕ → Option ℕ → ℕ → ℕ
scaled_unmarked s words rows values scale = unmarked s.zero words (scaled_at s rows values scale)

-- the rows before the n-th come before a row
abbrev pub ArePassed : List ℕ → ℕ → ℕ → Type 0
ArePassed rows n row = (k : ℕ) → k < n → slice_index rows k < row
