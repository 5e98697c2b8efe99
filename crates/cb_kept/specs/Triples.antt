-- Triples: entries in any order, perhaps several at a place.
use Rattle.std.specs.Prelude.{ℕ, ◌<◌, ◌≤◌, List, map, All, Result}
use Rattle.cb_semirings.specs.Arithmetic.{Arithmetic, IsValue}
use Rattle.cb_semirings.specs.declared.names.SemiringName.{SemiringName}
use Rattle.cb_matrix.specs.declared.Entry.{Entry}
use Rattle.cb_matrix.specs.declared.TheConstants.{LIMIT}
use Rattle.cb_matrix.specs.Sparse.{Extent}
use Rattle.cb_matrix.specs.Values.{collected}
use Rattle.cb_kept.specs.declared.triples.Triple.{Triple}
use Rattle.cb_kept.specs.declared.faults.Fault.{Fault}
use Rattle.cb_kept.specs.declared.faults.Fault.TheVariants.{TooLarge, Place, Value}
use Rattle.cb_kept.specs.declared.kept.Kept.{Kept}
use Rattle.cb_kept.specs.Kept.{Keeps}
use Rattle.cb_kept.specs.Refusals.{Unless, IsMemory}
use Rattle.cb_kept.specs.Answers.{IsAnswer}

abbrev pub entry_of : Triple → Entry
entry_of t = record { row = t.row; column = t.column; value = t.value }

abbrev pub AreWithin : Extent → List Triple → Type 0
AreWithin shape ts = All (λ (t : Triple). (t.row < shape.rows) × (t.column < shape.cols)) ts

abbrev pub AreTripleValues : Arithmetic → List Triple → Type 0
AreTripleValues s ts = All (λ (t : Triple). IsValue s t.value) ts

-- the faults of triples: more rows or columns than a matrix can have, a place outside the shape, a number that isn't a value
unfoldable pub triple_faults : Arithmetic → ℕ → ℕ → List Triple → Fault → Type 0
triple_faults s nrows ncols ts =
    Unless ((nrows ≤ LIMIT) × (ncols ≤ LIMIT)) TooLarge
    (Unless (AreWithin (record { rows = nrows; cols = ncols }) ts) Place
    (Unless (AreTripleValues s ts) Value IsMemory))

-- the sum of the values at each place, kept over a semiring and its name
abbrev pub IsKeptTriples : Arithmetic → SemiringName → ℕ → ℕ → List Triple → Kept → Type 0
IsKeptTriples s name nrows ncols ts k = Keeps name (collected s (record { rows = nrows; cols = ncols }) (map entry_of ts)) k

-- what a call returns that keeps it
abbrev pub IsTriplesAnswer : Arithmetic → SemiringName → ℕ → ℕ → List Triple → Result Kept Fault → Type 0
IsTriplesAnswer s name nrows ncols ts = IsAnswer (triple_faults s nrows ncols ts) (IsKeptTriples s name nrows ncols ts)
