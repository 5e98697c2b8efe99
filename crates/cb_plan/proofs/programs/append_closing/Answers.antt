use Rattle.std.proofs.Common.{◌≡◌, true, false, arith}
use Rattle.std.specs.Prelude.{◌==◌}
use Rattle.std.proofs.lemmas.Bool.Decides.{nat_tests}
use Rattle.cb_plan.specs.Programs.{closing_halves}
use Rattle.cb_plan.proofs.Ranges.{extended}
use Rattle.cb_plan.proofs.programs.append_closing.Goals as goal
use Rattle.cb_plan.proofs.programs.append_closing.Goals.{then-from-rank+in_ok-append_shuts, else-from-rank+in_ok-push}

pub loop-from-preserved : goal.loop-from-preserved
loop-from-preserved c =
    let rank = c.args.rank in
    let from = c.loop-from.from in
    elim c.if-from-rank.branch [
      | then-from-rank+in_ok-append_shuts w ↦
          let own : (from == rank) ≡ true = grind (arith, nat_tests) in
          extended (closing_halves c.args.ranks rank) from _ _ _ c.loop-from.invariant (rw (w.halves-is, own) w.in_ok-append_shuts.ensures)
      | else-from-rank+in_ok-push w ↦
          let apart : (from == rank) ≡ false = grind (arith, nat_tests) in
          extended (closing_halves c.args.ranks rank) from _ _ _ c.loop-from.invariant (rw (w.halves-is, apart) w.in_ok-push.ensures.items)
    ]
