use Rattle.cb_matrix.specs.Operations.{row_sums}
use Rattle.cb_shares.specs.Sums.{IsListOf, some_entries}
use Rattle.cb_shares.proofs.sums.add_rows.Given as goal

-- the sums of the entries so far
abbrev pub invariant-loop-n : goal.invariant-loop-n
invariant-loop-n g l =
    let s = g.S.Semiring.arithmetic in
    IsListOf s (row_sums s (some_entries l.from l.n l.block)) l.sums
