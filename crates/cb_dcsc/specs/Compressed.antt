-- Doubly compressed columns: the columns that have entries, where each starts, and the rows and values of all entries.
use Rattle.std.specs.Prelude.{◌≡◌, ℕ, zero, suc, ◌+◌, ◌<◌, ◌≤◌, List, [], ◌∷◌, ◌++◌, length, slice_index, slice_range, All, AllPairs}
use Rattle.cb_semirings.specs.Arithmetic.{Arithmetic}
use Rattle.cb_matrix.specs.declared.Entry.{Entry}
use Rattle.cb_matrix.specs.Sparse.{Extent, Sparse, IsMatrix}

-- the entries of one column, by their rows and values
unfoldable pub entries_in : ℕ → List ℕ → List ℕ → List Entry
entries_in j [] vs = []
entries_in j (i ∷ is) [] = []
entries_in j (i ∷ is) (v ∷ vs) = record { row = i; column = j; value = v } ∷ entries_in j is vs

-- the entries of one row, by their columns and values
unfoldable pub entries_in_row : ℕ → List ℕ → List ℕ → List Entry
entries_in_row i [] vs = []
entries_in_row i (j ∷ js) [] = []
entries_in_row i (j ∷ js) (v ∷ vs) = record { row = i; column = j; value = v } ∷ entries_in_row i js vs

-- the n-th part of a list, from its start to the next one
abbrev pub part : List ℕ → List ℕ → ℕ → List ℕ
part starts xs n = slice_range xs (slice_index starts n) (slice_index starts (n + 1))

-- the entries of the n-th column that has entries
abbrev pub piece : List ℕ → List ℕ → List ℕ → List ℕ → ℕ → List Entry
piece columns starts rows values n = entries_in (slice_index columns n) (part starts rows n) (part starts values n)

-- the first n pieces, one after another
unfoldable pub pieces : (ℕ → List Entry) → ℕ → List Entry
pieces f zero = []
pieces f (suc n) = pieces f n ++ f n

-- the entries of all columns
abbrev pub all_entries : List ℕ → List ℕ → List ℕ → List ℕ → List Entry
all_entries columns starts rows values = pieces (piece columns starts rows values) (length columns)

-- a list of starts, which begins with 0
abbrev pub opened : List ℕ → List ℕ
opened [] = 0 ∷ []
opened (a ∷ rest) = a ∷ rest

-- Each listed column has entries, and the parts follow one another. Without entries all four lists are empty.
pub record AreColumns (columns starts rows values : List ℕ) : Type 0 where
  pub ascending : AllPairs (λ c d. c < d) columns
  pub no_starts : length columns ≡ 0 → length starts ≡ 0
  pub one_more_start : 0 < length columns → length starts ≡ length columns + 1
  pub first : slice_index starts 0 ≡ 0
  pub rising : (n : ℕ) → n < length columns → slice_index starts n < slice_index starts (n + 1)
  pub last : slice_index starts (length columns) ≡ length rows
  pub same_length : length values ≡ length rows

-- the matrix that four lists stand for
abbrev pub block_of : Extent → List ℕ → List ℕ → List ℕ → List ℕ → Sparse
block_of shape columns starts rows values = record { shape = shape; entries = all_entries columns starts rows values }

-- Four lists that are a block's, and stand for a matrix.
pub record IsBlock (s : Arithmetic) (shape : Extent) (columns starts rows values : List ℕ) : Type 0 where
  pub lists : AreColumns columns starts rows values
  pub matrix : IsMatrix s (block_of shape columns starts rows values)

-- a matrix with one more column, by its rows and values, after all the others
abbrev pub with_column : Sparse → ℕ → List ℕ → List ℕ → Sparse
with_column m j is vs = record { shape = m.shape; entries = m.entries ++ entries_in j is vs }

-- entries in compressed columns (CSC): column j has those from its start to the next column's
abbrev pub csc_column : List ℕ → List ℕ → List ℕ → ℕ → List Entry
csc_column starts rows values j = entries_in j (part starts rows j) (part starts values j)

-- the entries of the first n columns
abbrev pub csc_entries : List ℕ → List ℕ → List ℕ → ℕ → List Entry
csc_entries starts rows values n = pieces (csc_column starts rows values) n

-- the matrix of a shape with these columns
abbrev pub csc_matrix : Extent → List ℕ → List ℕ → List ℕ → Sparse
csc_matrix shape starts rows values = record { shape = shape; entries = csc_entries starts rows values shape.cols }

-- Where each of n columns starts and the last one ends: from 0 to the number of entries.
pub record AreStarts (n : ℕ) (starts rows values : List ℕ) : Type 0 where
  pub count : length starts ≡ n + 1
  pub first : slice_index starts 0 ≡ 0
  pub rising : (j : ℕ) → j < n → slice_index starts j ≤ slice_index starts (j + 1)
  pub last : slice_index starts n ≡ length rows
  pub same_length : length values ≡ length rows

-- The columns below n that have entries, and where each starts. Leaving out the empty ones keeps all entries.
pub record AreNonempty (n : ℕ) (all columns starts : List ℕ) : Type 0 where
  pub ascending : AllPairs (λ c d. c < d) columns
  pub below : All (λ c. c < n) columns
  pub count : length starts ≡ length columns + 1
  pub first : slice_index starts 0 ≡ 0
  pub rising : (k : ℕ) → k < length columns → slice_index starts k < slice_index starts (k + 1)
  pub last : slice_index starts (length columns) ≡ slice_index all n
  pub entries : (rows values : List ℕ) → all_entries columns starts rows values ≡ csc_entries all rows values n
