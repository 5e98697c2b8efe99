use Rattle.cb_ffi.specs.KeptCalls.{IsGraphCall}
use Rattle.cb_ffi.proofs.KeptCalls.{graph_call_of}
use Rattle.cb_ffi.proofs.cbgrid_kernel_kept_graph.Goals as goal

pub returns : goal.returns
unfolding IsGraphCall
returns c =
    rw (← c.borrowed.ensures) (rw (← c.borrowed_with_transpose-graph.ensures) (rw (← c.graph_task_of-task.ensures)
    (graph_call_of _ _ _ _ _ _ c.kept_graph-answer.ensures c.put_answer.ensures.ok c.put_answer.ensures.refused)))
