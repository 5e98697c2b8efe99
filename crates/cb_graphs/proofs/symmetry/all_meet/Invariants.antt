use Rattle.std.proofs.Common.{◌≡◌, ◌≢◌, ◌<◌, ℕ, length, get_or}
use Rattle.std.specs.Prelude.{All}
use Rattle.cb_semirings.specs.Tables.{or_and}
use Rattle.cb_matrix.specs.Sparse.{at}
use Rattle.cb_dcsc.specs.Columns.{in_column, rows_of}
use Rattle.cb_graphs.specs.Neighbours.{vertex_count}
use Rattle.cb_graphs.proofs.symmetry.all_meet.Given as goal

-- the entries of the first columns have one in the other direction
abbrev pub invariant-loop-n : goal.invariant-loop-n
invariant-loop-n l = record {
  as_many : length l.met ≡ vertex_count l.graph;
  met : (k : ℕ) → k < l.n → All (λ u. at or_and l.graph (get_or l.columns k 0) u ≢ 0) (rows_of (in_column (get_or l.columns k 0) l.graph.entries));
}
