use Rattle.cb_job_computations.specs.Extracts.{IsExtractEnd}
use Rattle.cb_jobs.proofs.execution.execute.Goals as goal

pub returns-in-Compute : goal.returns-in-Compute
returns-in-Compute g c = rw c.in-Compute.is c.execute_computation.ensures

pub returns-in-Extract : goal.returns-in-Extract
unfolding IsExtractEnd
returns-in-Extract g c = rw c.in-Extract.is c.execute_extract.ensures

pub returns-in-Graph : goal.returns-in-Graph
returns-in-Graph g c = rw c.in-Graph.is c.put_graph.ensures
