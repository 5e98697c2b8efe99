use Rattle.std.proofs.Common.{◌≡◌, true, false, sym, append-nil, arith}
use Rattle.std.specs.Prelude.{◌==◌}
use Rattle.std.proofs.lemmas.Bool.Decides.{nat_tests}
use Rattle.cb_plan.specs.Programs.{own_shut}
use Rattle.cb_plan.proofs.Ranges.{extended}
use Rattle.cb_plan.proofs.programs.append_shuts.Goals as goal
use Rattle.cb_plan.proofs.programs.append_shuts.Goals.{then-to-rank+in_ok-push, else-to-rank}

pub loop-to-preserved : goal.loop-to-preserved
loop-to-preserved c =
    let rank = c.args.rank in
    let to = c.loop-to.to in
    elim c.if-to-rank.branch [
      | then-to-rank+in_ok-push w ↦
          let apart : (rank == to) ≡ false = grind (arith, nat_tests) in
          extended (own_shut rank) to _ _ _ c.loop-to.invariant (rw (w.halves-is, apart) w.in_ok-push.ensures.items)
      | else-to-rank w ↦
          let own : (rank == to) ≡ true = grind (arith, nat_tests) in
          extended (own_shut rank) to _ _ _ c.loop-to.invariant (rw (w.halves-is, own) (sym (append-nil c.loop-to.halves.items)))
    ]
