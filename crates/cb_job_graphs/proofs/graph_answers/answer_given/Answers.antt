use Rattle.std.proofs.Common.{refl, rules}
use Rattle.std.proofs.lemmas.Result.{err_from_is_err_and}
use Rattle.cb_operations.specs.declared.graphs.Beside.TheVariants.{Values}
use Rattle.cb_graphs.specs.GraphAnswers.{ValueColumn}
use Rattle.cb_job_graphs.proofs.AnswerLemmas.{untaken}
use Rattle.cb_job_graphs.proofs.graph_answers.answer_given.Goals as goal

pub returns-in_err-answer : goal.returns-in_err-answer
returns-in_err-answer g c =
    let a = c.in_ok-graph.graph.matrix in
    let x = c.in_ok-graph.values.matrix in
    let p = err_from_is_err_and c.from_residual-in_err-answer.result c.from_residual-in_err-answer.ensures.1 in
    rw (p.1, p.2)
    (untaken g.S.Semiring.arithmetic c.args.task c.args.texts.items a (ValueColumn x) Values (λ e. cc)
    (x, (c.in_ok-graph.ensures.first, c.in_ok-graph.ensures.second), refl) _ (search rules))
