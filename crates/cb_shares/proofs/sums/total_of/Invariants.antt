use Rattle.std.proofs.Common.{◌≡◌}
use Rattle.cb_semirings.specs.Arithmetic.{IsValue}
use Rattle.cb_reshape.specs.Sums.{matrix_total}
use Rattle.cb_shares.specs.Sums.{some_entries}
use Rattle.cb_shares.proofs.sums.total_of.Given as goal

-- the sum of the entries so far
abbrev pub invariant-loop-n : goal.invariant-loop-n
invariant-loop-n g l =
    let s = g.S.Semiring.arithmetic in
    record {
      sum : l.sum ≡ matrix_total s (some_entries l.from l.n l.block);
      value : IsValue s l.sum;
    }
