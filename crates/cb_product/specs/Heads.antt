-- The heads of a merge: each is a term at its next entry.
use Rattle.std.specs.Prelude.{◌≡◌, ℕ, ◌-◌, ◌<◌, ◌≤◌, List, length, map, All, AllPairs, slice_range, slice_index}
use Rattle.std.specs.List.{sum_by}
use Rattle.std.specs.Ordering.{nat_cmp, on, flip_args}
use Rattle.std.specs.declared.cmp.Ordering.{Ordering}
use Rattle.cb_semirings.specs.Arithmetic.{Arithmetic, IsValue}
use Rattle.cb_matrix.specs.Values.{total}
use Rattle.cb_dcsc.specs.Columns.{row_value}
use Rattle.cb_product.specs.declared.heads.Head.{Head}
use Rattle.cb_product.specs.declared.terms.Term.{Term}
use Rattle.cb_product.specs.SparseColumn.{one_value}
use Rattle.cb_product.specs.Terms.{terms_value}

-- the value at row i of the entries that a head has left, times its factor
abbrev pub head_value : Arithmetic → List ℕ → List ℕ → ℕ → Head → ℕ
head_value s rows values i h = s.mul (row_value s.zero (slice_range rows h.at h.end) (slice_range values h.at h.end) i) h.scale

-- the sum of these values over all heads
abbrev pub heads_value : Arithmetic → List ℕ → List ℕ → ℕ → List Head → ℕ
heads_value s rows values i hs = total s (map (head_value s rows values i) hs)

-- how many entries the heads have left
abbrev pub entries_left : List Head → ℕ
entries_left hs = sum_by (λ h. h.end - h.at) hs

-- the heads have the same sums as the terms, for any values of the entries
abbrev pub AreHeadsOf : Arithmetic → List ℕ → List Term → List Head → Type 0
AreHeadsOf s rows ts hs = (values : List ℕ) → length values ≡ length rows → All (IsValue s) values
    → (i : ℕ) → heads_value s rows values i hs ≡ terms_value s rows values i ts

-- a head is at an entry of its column, and the rows of its entries ascend
pub record IsHead (s : Arithmetic) (rows : List ℕ) (h : Head) : Type 0 where
  pub some : h.at < h.end
  pub within : h.end ≤ length rows
  pub row : h.row ≡ slice_index rows h.at
  pub ascending : AllPairs (λ i j. i < j) (slice_range rows h.at h.end)
  pub scale : IsValue s h.scale

-- `t`, a row and a value, is taken from the heads `old`, and `new` are left
pub record Gives (s : Arithmetic) (rows values : List ℕ) (old : List Head) (t : ℕ × ℕ) (new : List Head) : Type 0 where
  pub heads : All (IsHead s rows) new
  pub value : IsValue s t.1
  pub least : (bound : ℕ) → All (λ h. bound ≤ h.row) old → bound ≤ t.0
  pub sums : (i : ℕ) → heads_value s rows values i old ≡ s.add (one_value s.zero t i) (heads_value s rows values i new)
  pub fewer : entries_left new < entries_left old

-- the head with the least row is the greatest
abbrev pub by_row : Head → Head → Ordering
by_row = flip_args (on (λ h. h.row) nat_cmp)
