use Rattle.std.proofs.Common.{◌≡◌}
use Rattle.cb_rank_process.specs.Begun.{HaveMatrices, operand_shapes}
use Rattle.cb_rank_process.proofs.processes.Process.shapes.Given as goal

-- the shapes of the first registers so far, which have matrices
abbrev pub invariant-loop-n : goal.invariant-loop-n
invariant-loop-n g l = record {
  shapes : l.shapes.items ≡ operand_shapes l.self l.n;
  filled : HaveMatrices l.self l.n;
}
