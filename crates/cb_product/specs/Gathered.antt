-- The terms of entries that follow one another in a list: columns of the left block, times factors.
use Rattle.std.specs.Prelude.{◌≡◌, ℕ, ◌+◌, ◌<◌, ◌≤◌, List, length, All, slice_index, slice_range}
use Rattle.cb_semirings.specs.Arithmetic.{Arithmetic}
use Rattle.cb_matrix.specs.Sparse.{Sparse, at}
use Rattle.cb_dcsc.specs.Columns.{rows_of}
use Rattle.cb_product.specs.declared.panel.Panel.{Panel}
use Rattle.cb_product.specs.Terms.{IsTerm, terms_at, column_sum}

-- what the nth entry adds at row i: the value of `a` in the column that the entry's row names, times the entry's value
abbrev pub entry_product : Arithmetic → Sparse → List ℕ → List ℕ → ℕ → ℕ → ℕ
entry_product s a rows values n i = s.mul (at s a i (slice_index rows n)) (slice_index values n)

-- a panel has terms of `a`; those between the places of an entry and of the next are what the entry adds
pub record AreGathered (s : Arithmetic) (a : Sparse) (rows values : List ℕ) (p : Panel) : Type 0 where
  pub terms : All (IsTerm s (rows_of a.entries)) p.terms.items
  pub within : All (λ n. n ≤ length p.terms.items) p.places.items
  pub rising : (n : ℕ) → n + 1 < length p.places.items → slice_index p.places.items n ≤ slice_index p.places.items (n + 1)
  pub inside : p.first + length p.places.items ≤ length rows + 1
  pub products : (n i : ℕ) → n + 1 < length p.places.items → terms_at s a i (slice_range p.terms.items (slice_index p.places.items n) (slice_index p.places.items (n + 1))) ≡ entry_product s a rows values (p.first + n) i

-- it has terms for the entries from one place up to another
pub record Holds (p : Panel) (from until : ℕ) : Type 0 where
  pub first : p.first ≤ from
  pub last : until < p.first + length p.places.items

-- the terms from one place up to another are those of these entries
pub record HasTermsAt (s : Arithmetic) (a : Sparse) (rows values : List ℕ) (from until : ℕ) (p : Panel) (r : ℕ × ℕ) : Type 0 where
  pub order : r.0 ≤ r.1
  pub within : r.1 ≤ length p.terms.items
  pub sums : (i : ℕ) → terms_at s a i (slice_range p.terms.items r.0 r.1) ≡ column_sum s a i (slice_range rows from until) (slice_range values from until)
