use Rattle.std.proofs.Common.{◌≡◌, ◌≢◌, length, take}
use Rattle.std.specs.Prelude.{All}
use Rattle.cb_semirings.specs.Tables.{or_and}
use Rattle.cb_matrix.specs.Sparse.{at}
use Rattle.cb_graphs.proofs.symmetry.meets_all.Given as goal

-- there are entries in the first columns
abbrev pub invariant-loop-column : goal.invariant-loop-column
invariant-loop-column l = record {
  as_many : length l.met ≡ length l.fn.met;
  entries : All (λ v. at or_and l.graph l.row v ≢ 0) (take l.column-index l.columns);
}
