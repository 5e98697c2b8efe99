use Rattle.std.proofs.Common.{◌≡◌, take}
use Rattle.std.specs.List.{flat_map}
use Rattle.cb_matrix.specs.Sparse.{IsMatrix}
use Rattle.cb_dcsc.specs.Columns.{in_column, columns_with_entries}
use Rattle.cb_reshape.specs.Moving.{moved_entries}
use Rattle.cb_reshape.proofs.parts.moved_rows.Given as goal

abbrev pub invariant-loop-n : goal.invariant-loop-n
invariant-loop-n g l =
    record {
      entries : l.out ≡ record { shape = l.fn.shape; entries = moved_entries l.part (flat_map (λ c. in_column c l.block.entries) (take l.n (columns_with_entries l.block.entries))) };
      matrix : IsMatrix g.S.Semiring.arithmetic l.out;
    }
