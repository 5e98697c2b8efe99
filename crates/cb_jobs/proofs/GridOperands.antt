-- Operands over a grid.
use Rattle.std.proofs.Common.{◌≡◌, ℕ}
use Rattle.cb_layout.specs.Distributed.{Distributed}
use Rattle.cb_operations.specs.declared.operations.Operands.{Operands}
use Rattle.cb_operations.specs.declared.operations.Operands.TheVariants.{One, Two, Three}
use Rattle.cb_rank_operations.specs.Outcomes.{LieOver}
use Rattle.cb_job_inputs.specs.Inputs.{AreEach}

-- if the blocks of each are those of a grid of this side, they lie over it
pub lie_over : (side : ℕ) (operands : Operands Distributed) → AreEach (λ (m : Distributed). m.side ≡ side) operands → LieOver side operands
lie_over side (One a) h = h
lie_over side (Two a b) h = h
lie_over side (Three a b c) h = h
