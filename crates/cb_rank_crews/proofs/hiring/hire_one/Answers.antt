use denote.Param.Send.{sendable}
use Rattle.std.proofs.Crossing.{crosses}
use Rattle.cb_rank_crews.proofs.Sent.{requests_send, answers_send}
use Rattle.cb_rank_crews.proofs.hiring.hire_one.Goals as goal

pub spawn-requires-send-F : goal.spawn-requires-send-F
spawn-requires-send-F g c κs within = search (sendable, crosses, requests_send, answers_send) depth 60 fits 100000
