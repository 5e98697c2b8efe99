-- Worked texts and their first faults, computed by the definitions.
use Rattle.std.specs.Prelude.{◌≡◌, ℕ, List, [], ◌∷◌, ◌++◌, codes, Some, None, Option, refl, cond, ◌==◌, map}
use Rattle.cb_semirings.specs.Arithmetic.{Arithmetic}
use Rattle.cb_semirings.specs.Tables.{plus_times, min_plus, or_and, max_min}
use Rattle.cb_market_lines.specs.declared.Kind.TheVariants.{BadHeader, Unsupported, BadSize, TooLarge, NotSquare, BadLine, BadNumber}
use Rattle.cb_market_lines.specs.declared.Kind.TheVariants.{IndexRange, AboveDiagonal, ValueRange, ExtraEntry, MissingEntries, OnDiagonal}
use Rattle.cb_market_lines.specs.declared.Kind.{Kind}
use Rattle.cb_market_lines.specs.declared.ReadFault.{ReadFault}
use Rattle.cb_market_lines.specs.Lines.{lines, cut_lines, without_return, words}
use Rattle.cb_market_lines.specs.Faults.{first_fault, entries_fault}

-- a text in which `/` stands for a line feed
abbrev text : List ℕ → List ℕ
text bytes = map (λ c. cond (c == 47) 10 c) bytes

-- after the header of whole numbers, of a symmetric matrix without values, and of a skew-symmetric one
abbrev general : List ℕ → List ℕ
general rest = text (codes "%%MatrixMarket matrix coordinate integer general/" ++ rest)

abbrev symmetric : List ℕ → List ℕ
symmetric rest = text (codes "%%MatrixMarket matrix coordinate pattern symmetric/" ++ rest)

abbrev skew : List ℕ → List ℕ
skew rest = text (codes "%%MatrixMarket matrix coordinate integer skew-symmetric/" ++ rest)

-- a row: the semiring, the text and its first fault
abbrev Row : Type 0
Row = Arithmetic × List ℕ × Option ReadFault

abbrev fault : ℕ → Kind → Option ReadFault
fault line kind = Some (record { line = line; kind = kind })

rows : List Row
rows =
    (plus_times, [], fault 1 BadHeader)
    ∷ (plus_times, text (codes "%%matrixmarket matrix coordinate integer general/"), fault 1 BadHeader)
    ∷ (plus_times, text (codes " %%MatrixMarket matrix coordinate integer general/1 1 0/"), fault 1 BadHeader)
    ∷ (plus_times, text (codes "%%MatrixMarket matrix coordinate integer/"), fault 1 BadHeader)
    ∷ (plus_times, text (codes "%%MatrixMarket matrix coordinate real general/1 1 0/"), fault 1 Unsupported)
    ∷ (plus_times, text (codes "%%MatrixMarket matrix array integer general/1 1/"), fault 1 Unsupported)
    ∷ (plus_times, general [], fault 2 BadSize)
    ∷ (plus_times, general (codes "2 2/"), fault 2 BadSize)
    ∷ (plus_times, general (codes "2147483648 1 0/"), fault 2 TooLarge)
    ∷ (plus_times, text (codes "%%MatrixMarket matrix coordinate integer symmetric/2 3 0/"), fault 2 NotSquare)
    ∷ (plus_times, general (codes "2 2 1/1 1 5 6/"), fault 3 BadLine)
    ∷ (plus_times, general (codes "2 2 1/+1 1 5/"), fault 3 BadNumber)
    ∷ (plus_times, general (codes "2 2 1/1 1 x/"), fault 3 BadNumber)
    ∷ (plus_times, general (codes "2 2 1/0 1 5/"), fault 3 IndexRange)
    ∷ (plus_times, general (codes "2 2 1/1 99999999999999999999 5/"), fault 3 IndexRange)
    ∷ (or_and, symmetric (codes "3 3 1/2 3/"), fault 3 AboveDiagonal)
    ∷ (min_plus, general (codes "1 1 1/1 1 -1/"), fault 3 ValueRange)
    ∷ (min_plus, general (codes "1 1 1/1 1 18446744073709551615/"), fault 3 ValueRange)
    ∷ (plus_times, general (codes "1 1 1/1 1 18446744073709551616/"), fault 3 ValueRange)
    ∷ (plus_times, general (codes "1 1 1/1 1 18446744073709551615/"), None)
    ∷ (min_plus, general (codes "1 1 1/1 1 -0/"), None)
    ∷ (max_min, general (codes "1 1 1/1 1 -1/"), fault 3 ValueRange)
    ∷ (plus_times, general (codes "2 2 2/1 1 12"), fault 4 MissingEntries)
    ∷ (plus_times, general (codes "1 1 2/1 1 1/1 1 2/1 1 3/"), fault 5 ExtraEntry)
    ∷ (plus_times, skew (codes "2 2 1/2 1 3/"), None)
    ∷ (plus_times, skew (codes "2 2 1/1 1 x/"), fault 3 BadNumber)
    ∷ (plus_times, skew (codes "2 2 1/1 1 0/"), fault 3 OnDiagonal)
    ∷ (plus_times, skew (codes "2 2 1/1 2 5/"), fault 3 AboveDiagonal)
    ∷ (plus_times, skew (codes "2 3 0/"), fault 2 NotSquare)
    ∷ (min_plus, skew (codes "2 2 1/2 1 3/"), fault 1 Unsupported)
    ∷ []

-- the first fault of each row's text is the one in the row
table : map (λ (r : Row). first_fault r.0 r.1) rows ≡ map (λ (r : Row). r.2) rows
unfolding rows first_fault lines cut_lines without_return words entries_fault
table = refl
