use Rattle.cb_jobs.proofs.RankFaults.{without_ranks}
use Rattle.cb_jobs.proofs.execution.ranks_graph_answer.Goals as goal

pub returns-in_default : goal.returns-in_default
returns-in_default g c =
    without_ranks c.args.ranks.now.engine c.args.ranks.now.grid.side c.args.task c.args.texts.items c.graph_answer.result c.in_default.not-Levels c.in_default.not-Distances c.graph_answer.ensures
