use Rattle.cb_lanes.specs.Desks.{standing}
use Rattle.cb_rank.specs.Ranks.{ArePortsOf}
use Rattle.cb_rank_tests.proofs.ranks.take_turns.Given as goal

abbrev pub invariant-loop-one : goal.invariant-loop-one
invariant-loop-one l = ArePortsOf l.first (standing l.desk_of_first) × ArePortsOf l.second (standing l.desk_of_second)
