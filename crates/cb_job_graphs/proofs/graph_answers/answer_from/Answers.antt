use Rattle.std.proofs.Common.{rules}
use Rattle.std.proofs.lemmas.Result.{err_from_is_err_and}
use Rattle.cb_operations.specs.declared.graphs.Beside.TheVariants.{Sources}
use Rattle.cb_graphs.specs.GraphAnswers.{IsTaken, SourceList}
use Rattle.cb_job_graphs.specs.GraphTasks.{AreRead}
use Rattle.cb_job_graphs.proofs.AnswerLemmas.{unlisted, untaken}
use Rattle.cb_job_graphs.proofs.graph_answers.answer_from.Goals as goal

pub returns-in_err-sources : goal.returns-in_err-sources
returns-in_err-sources g c =
    let a = c.in_ok-graph.graph.matrix in
    let l = c.in_ok-graph.list.matrix in
    let p = err_from_is_err_and c.from_residual-in_err-sources.result c.from_residual-in_err-sources.ensures.1 in
    rw (p.1, p.2) (unlisted g.S.Semiring.arithmetic c.args.task c.args.texts.items a l (c.in_ok-graph.ensures.first, c.in_ok-graph.ensures.second) _ (search rules))

pub returns-in_err-answer : goal.returns-in_err-answer
returns-in_err-answer g c =
    let a = c.in_ok-graph.graph.matrix in
    let l = c.in_ok-graph.list.matrix in
    let operand = SourceList c.in_ok-sources.sources.items in
    let taken : IsTaken c.args.task a.shape operand = search rules in
    let read : AreRead Sources g.S.Semiring.arithmetic c.args.texts.items a operand = (l, (c.in_ok-graph.ensures.first, c.in_ok-graph.ensures.second), search rules, search rules) in
    let p = err_from_is_err_and c.from_residual-in_err-answer.result c.from_residual-in_err-answer.ensures.1 in
    rw (p.1, p.2) (untaken g.S.Semiring.arithmetic c.args.task c.args.texts.items a operand Sources (λ _. taken) read _ (search rules))

pub returns : goal.returns
returns g c =
    let a = c.in_ok-graph.graph.matrix in
    let l = c.in_ok-graph.list.matrix in
    let operand = SourceList c.in_ok-sources.sources.items in
    let taken : IsTaken c.args.task a.shape operand = search rules in
    let read : AreRead Sources g.S.Semiring.arithmetic c.args.texts.items a operand = (l, (c.in_ok-graph.ensures.first, c.in_ok-graph.ensures.second), search rules, search rules) in
    record { answer = (a, operand, (taken, read), search rules); fault = tt; unwritten = tt }
