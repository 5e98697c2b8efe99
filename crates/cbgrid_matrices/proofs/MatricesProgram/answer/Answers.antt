use Rattle.std.proofs.Common.{subst}
use Rattle.cb_command_line.specs.declared.tasks.Task.TheVariants.{Compute, Extract}
use Rattle.cb_job_computations.specs.ComputedTexts.{IsEndOver}
use Rattle.cb_job_computations.specs.Extracts.{IsExtractEnd}
use Rattle.cb_job_runs.proofs.PartEnds.{part_end}
use Rattle.cbgrid_matrices.specs.MatrixJobs.{Asks, CanDo, IsTaskAnswer, IsTaskFault}
use Rattle.cbgrid_matrices.proofs.MatricesProgram.answer.Goals as goal

pub returns-in-Compute : goal.returns-in-Compute
unfolding IsEndOver
returns-in-Compute g c =
    let asked = c.can_do.ensures.0 c.if-not-can_do.false in
    part_end Asks IsTaskAnswer IsTaskFault c.args.job.now (Compute c.in-Compute.computation c.in-Compute.semiring) (asked.0, c.in-Compute.is, subst CanDo c.in-Compute.is asked.2) c.args.texts.items _ _ _ _ c.execute_distributive_computation.ensures

pub returns-in-Extract : goal.returns-in-Extract
unfolding IsExtractEnd
returns-in-Extract g c =
    let asked = c.can_do.ensures.0 c.if-not-can_do.false in
    part_end Asks IsTaskAnswer IsTaskFault c.args.job.now (Extract c.in-Extract.lists c.in-Extract.semiring) (asked.0, c.in-Extract.is, subst CanDo c.in-Extract.is asked.2) c.args.texts.items _ _ _ _ c.execute_distributive_extract.ensures
