use Rattle.cb_job_runs.proofs.PartEnds.{part_end}
use Rattle.cb_job_graphs.specs.GraphTasks.{IsGraphAnswer, IsGraphFault}
use Rattle.cbgrid_graphs.specs.GraphJobs.{Asks}
use Rattle.cbgrid_graphs.proofs.GraphsProgram.answer.Goals as goal

pub returns-in-Some : goal.returns-in-Some
returns-in-Some g c = part_end Asks IsGraphAnswer IsGraphFault c.args.job.now c.in-Some.task c.in-Some.ensures.some c.args.texts.items _ _ _ _ c.execute_graph_task.ensures
