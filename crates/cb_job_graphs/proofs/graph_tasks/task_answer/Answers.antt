use Rattle.std.proofs.Common.{◌≡◌, rules, subst, sym}
use Rattle.cb_semirings.specs.declared.names.SemiringName.TheVariants as name_is
use Rattle.cb_semirings.specs.Names.{arithmetic_of}
use Rattle.cb_operations.specs.Graphs.{beside_of, semiring_of}
use Rattle.cb_job_graphs.specs.GraphTasks.{HasAnswer}
use Rattle.cb_job_graphs.proofs.graph_tasks.task_answer.Goals as goal

pub returns-then-eq : goal.returns-then-eq
returns-then-eq g c =
    let is : semiring_of c.args.task ≡ name_is.MinPlus = search rules in
    subst (λ n. HasAnswer (beside_of c.args.task) (arithmetic_of n) c.args.task c.args.texts.items c.answer_over.result) (sym is) c.answer_over.ensures

pub returns-else-eq : goal.returns-else-eq
returns-else-eq g c =
    let is : semiring_of c.args.task ≡ name_is.OrAnd = search rules in
    subst (λ n. HasAnswer (beside_of c.args.task) (arithmetic_of n) c.args.task c.args.texts.items c.answer_over-else-eq.result) (sym is) c.answer_over-else-eq.ensures
