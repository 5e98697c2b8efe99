use Rattle.std.proofs.Common.{◌≡◌, ◌≤◌}
use Rattle.cb_operations.specs.SelectionAnswers.{power}
use Rattle.cb_selections.proofs.powers.power.Given as goal

abbrev pub invariant-loop : goal.invariant-loop
invariant-loop g l =
    record {
      some : 1 ≤ l.counter;
      product : l.product ≡ power g.S.Semiring.arithmetic l.block l.counter;
    }
