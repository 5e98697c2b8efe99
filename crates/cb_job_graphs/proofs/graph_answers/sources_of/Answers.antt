use Rattle.std.proofs.Common.{rules, ◌≤◌}
use Rattle.std.proofs.lemmas.Result.{err_from_is_err_and}
use Rattle.cb_matrix.specs.declared.TheConstants.{LIMIT}
use Rattle.cb_job_inputs.specs.Lists.{IsList}
use Rattle.cb_job_graphs.proofs.AnswerLemmas.{list_fits}
use Rattle.cb_job_graphs.proofs.graph_answers.sources_of.Goals as goal

pub returns-in_err-sources-clause-fault : goal.returns-in_err-sources-clause-fault
returns-in_err-sources-clause-fault c =
    let list : IsList c.args.shape.rows c.args.list = search rules in
    let few : c.args.list.shape.rows ≤ LIMIT = search rules in
    let p = err_from_is_err_and c.from_residual-in_err-sources.result c.from_residual-in_err-sources.ensures.1 in
    rw (p.1, p.2) ((c.in_ok-check.ensures.ok, list_fits c.args.shape c.args.list few list), list)
