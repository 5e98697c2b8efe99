use Rattle.std.proofs.Common.{rules, refl, inl}
use Rattle.cb_matrix.specs.Sparse.{IsMatrix}
use Rattle.cb_operations.specs.declared.graphs.Beside.TheVariants as beside_is
use Rattle.cb_graphs.specs.declared.graph_tasks.GraphAnswer.TheVariants.{Numbers}
use Rattle.cb_graphs.specs.GraphAnswers.{NoOperand}
use Rattle.cb_job_graphs.specs.GraphTasks.{AreOperands}
use Rattle.cb_semirings.specs.Tables.{min_plus}
use Rattle.cb_operations.specs.declared.graphs.GraphTask.TheVariants.{Distances}
use Rattle.cb_jobs.proofs.RankFaults.{end_of_search}
use Rattle.cb_jobs.proofs.searches_by_ranks.distances_answer.Goals as goal

pub returns-in-Err : goal.returns-in-Err
returns-in-Err g c =
    end_of_search (Distances c.args.source) min_plus c.args.source c.args.ranks.now.engine c.args.ranks.now.grid.side c.args.texts.items c.in_ok-graph.graph c.in-Err.fault c.job_fault.result
    (λ refusal h. (c.in_ok-graph.graph.matrix, NoOperand, (c.in_ok-graph.ensures.only, refl), inl h)) c.in_ok-graph.ensures.only c.in_ok-graph.ensures.side c.in-Err.ensures.fault c.in-Err.ensures.lost c.job_fault.ensures

pub returns-in_ok-numbers_answer-in-Ok : goal.returns-in_ok-numbers_answer-in-Ok
returns-in_ok-numbers_answer-in-Ok g c =
    let a = c.in_ok-graph.graph.matrix in
    let column = c.in-Ok.column in
    let matrix : IsMatrix min_plus column = search rules in
    let operands : AreOperands beside_is.Nothing min_plus (Distances c.args.source) c.args.texts.items a NoOperand = ((c.in-Ok.ensures.agree, tt), (c.in_ok-graph.ensures.only, refl)) in
    record {
      answer = (Numbers column, (a, NoOperand, operands, (column, refl, matrix, c.in-Ok.ensures.ok)), c.in_ok-numbers_answer-in-Ok.ensures);
      unwritten = (inl (a, NoOperand, operands), inl (a, NoOperand, operands));
      fault = tt;
      before = tt;
    }
