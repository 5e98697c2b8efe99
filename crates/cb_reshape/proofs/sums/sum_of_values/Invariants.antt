use Rattle.std.proofs.Common.{◌≡◌, take}
use Rattle.cb_semirings.specs.Arithmetic.{IsValue}
use Rattle.cb_matrix.specs.Values.{total}
use Rattle.cb_reshape.proofs.sums.sum_of_values.Given as goal

abbrev pub invariant-loop-value : goal.invariant-loop-value
invariant-loop-value g l =
    record {
      sum : l.sum ≡ total g.S.Semiring.arithmetic (take l.value-index l.values);
      value : IsValue g.S.Semiring.arithmetic l.sum;
    }
