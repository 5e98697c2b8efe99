use Rattle.std.proofs.Common.{rules}
use Rattle.std.specs.Prelude.{IfErr}
use Rattle.std.proofs.lemmas.Result.{IfErr-weaker}
use Rattle.cb_kept.specs.Refusals.{matrix_faults, list_faults}
use Rattle.cb_kept.proofs.Firsts.{of_lists, none_of_lists}
use Rattle.cb_kept.proofs.kept_lists.keep_over.Goals as goal

pub returns-in_err-check_lists : goal.returns-in_err-check_lists
returns-in_err-check_lists g c =
    let s = g.S.Semiring.arithmetic in
    let a = c.args.a.now in
    let first : IfErr c.from_residual.result (matrix_faults s a (λ _. ⊥)) = search rules in
    let h : IfErr c.from_residual.result (list_faults s a) = IfErr-weaker c.from_residual.result (matrix_faults s a (λ _. ⊥)) (list_faults s a) (of_lists s a) first in
    search rules

pub returns-in_err-block : goal.returns-in_err-block
returns-in_err-block g c =
    let memory = (none_of_lists g.S.Semiring.arithmetic c.args.a.now c.in_ok-check_lists.ensures.ok).memory in
    search rules

pub returns : goal.returns
returns g c =
    let none = none_of_lists g.S.Semiring.arithmetic c.args.a.now c.in_ok-check_lists.ensures.ok in
    search rules
