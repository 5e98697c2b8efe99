-- What a fault of numbers, lists or triples is about: the first of them that misfits.
use Rattle.std.specs.Prelude.{◌≡◌, ◌≢◌, ℕ, ◌+◌, ◌-◌, ◌<◌, ◌≤◌, ◌⊎◌, List, length, map, slice_index, IfSome}
use Rattle.cb_semirings.specs.Arithmetic.{Arithmetic, IsValue}
use Rattle.cb_semirings.specs.Names.{arithmetic_of, numbered}
use Rattle.cb_matrix.specs.Sparse.{Extent}
use Rattle.cb_lists.specs.declared.lists.Columns.{Columns}
use Rattle.cb_lists.specs.Lists.{count, starts}
use Rattle.cb_kept.specs.declared.faults.Fault.{Fault}
use Rattle.cb_kept.specs.declared.faults.Fault.TheVariants.{Order, Place, Value}
use Rattle.cb_kept.specs.declared.triples.Triple.{Triple}
use Rattle.cb_kept.specs.Refusals.{list_faults}
use Rattle.cb_kept.specs.Triples.{triple_faults}

-- n is the first number below count that has the property, or count if none has
pub record IsFirst (P : ℕ → Type 0) (count n : ℕ) : Type 0 where
  pub within : n ≤ count
  pub before : (k : ℕ) → k < n → P k → ⊥
  pub here : n < count → P n

-- the nth of some numbers isn't below a bound, and isn't a value
abbrev pub IsFrom : ℕ → List ℕ → ℕ → Type 0
IsFrom bound numbers n = bound ≤ slice_index numbers n

abbrev pub IsOther : Arithmetic → List ℕ → ℕ → Type 0
IsOther s numbers n = IsValue s (slice_index numbers n) → ⊥

-- ---- lists
-- the nth stored column is out of order: it ends before it starts, or it is listed and isn't after the column before it
abbrev pub IsColumnUnordered : Columns → ℕ → Type 0
IsColumnUnordered c n =
    (slice_index (starts c) (n + 1) < slice_index (starts c) n)
    ⊎ ((c.kind ≡ 0) × (0 < n) × (slice_index c.columns.now n ≤ slice_index c.columns.now (n - 1)))

-- the nth entry is out of order: no stored column starts with it, and its row isn't after that of the entry before it
abbrev pub IsEntryUnordered : Columns → ℕ → Type 0
IsEntryUnordered c n =
    ((k : ℕ) → k < count c → slice_index (starts c) k ≢ n) × (slice_index c.rows.now n ≤ slice_index c.rows.now (n - 1))

-- the nth stored column is listed, and outside the shape
abbrev pub IsColumnOutside : Columns → ℕ → Type 0
IsColumnOutside c n = (c.kind ≡ 0) × IsFrom c.ncols c.columns.now n

-- the first stored column that misfits, counted on from the number of entries; or, if all of them fit, the first entry that
-- misfits
pub record IsFirstOfLists (c : Columns) (column entry : ℕ → Type 0) (at : ℕ) : Type 0 where
  pub columns : (n : ℕ) → n < count c → IsFirst column (count c) n → at ≡ length c.rows.now + n
  pub entries : IsFirst column (count c) (count c) → IsFirst entry (length c.rows.now) at

-- what each fault of lists is about
abbrev pub IsListMisfit : Arithmetic → Columns → Fault → ℕ → Type 0
IsListMisfit s c Order at = IsFirstOfLists c (IsColumnUnordered c) (IsEntryUnordered c) at
IsListMisfit s c Place at = IsFirstOfLists c (IsColumnOutside c) (IsFrom c.nrows c.rows.now) at
IsListMisfit s c Value at = IsFirst (IsOther s c.values.now) (length c.values.now) at
IsListMisfit s c f at = Unit {0}

-- what the fault of lists over the semiring of a number is about
abbrev pub IsMisfitOfLists : ℕ → Columns → ℕ → Type 0
IsMisfitOfLists semiring c at =
    IfSome (numbered semiring) (λ name. (f : Fault) → list_faults (arithmetic_of name) c f → IsListMisfit (arithmetic_of name) c f at)

-- ---- triples
-- the nth triple is outside a shape
abbrev pub IsTripleOutside : Extent → List Triple → ℕ → Type 0
IsTripleOutside shape ts n = IsFrom shape.rows (map (λ (t : Triple). t.row) ts) n ⊎ IsFrom shape.cols (map (λ (t : Triple). t.column) ts) n

-- what each fault of triples is about
abbrev pub IsTripleMisfit : Arithmetic → ℕ → ℕ → List Triple → Fault → ℕ → Type 0
IsTripleMisfit s nrows ncols ts Place at = IsFirst (IsTripleOutside (record { rows = nrows; cols = ncols }) ts) (length ts) at
IsTripleMisfit s nrows ncols ts Value at = IsFirst (IsOther s (map (λ (t : Triple). t.value) ts)) (length ts) at
IsTripleMisfit s nrows ncols ts f at = Unit {0}

-- what the fault of triples over the semiring of a number is about
abbrev pub IsMisfitOfTriples : ℕ → ℕ → ℕ → List Triple → ℕ → Type 0
IsMisfitOfTriples semiring nrows ncols ts at =
    IfSome (numbered semiring) (λ name. (f : Fault) → triple_faults (arithmetic_of name) nrows ncols ts f → IsTripleMisfit (arithmetic_of name) nrows ncols ts f at)
