use Rattle.std.proofs.Common.{ℕ, ◌<◌, get_or}
use Rattle.cb_product.specs.ColumnStarts.{IsNoted}
use Rattle.cb_product.proofs.column_index.hashed.Given as goal

abbrev pub invariant-loop-column : goal.invariant-loop-column
invariant-loop-column l = (k d : ℕ) → k < l.column-index → IsNoted l.places.items l.shift (get_or l.columns k d)
