use denote.Param.Send.{sendable}
use Rattle.std.proofs.Crossing.{crosses}
use Rattle.cb_rank_threads.proofs.rank_threads.start.Goals as goal

pub may_be_sent-requires-2-send-T : goal.may_be_sent-requires-2-send-T
may_be_sent-requires-2-send-T g c κs within = search (sendable, crosses) depth 60 fits 100000
