use Rattle.cb_rank_process.proofs.SearchedBlocks.{makes_round, settles}
use Rattle.cb_rank_process.proofs.vertex_numbers.Process+MinPlus.settle.Goals as goal

pub returns-clause-settles : goal.returns-clause-settles
returns-clause-settles c =
    settles c.args.self.now c.put.new.self c.put-2.new.self c.args.known c.args.reached c.in_ok-numbers.numbers c.in_ok-numbers.fell c.in_ok-numbers.ensures.settled c.put.ensures c.put-2.ensures

pub returns-clause-round : goal.returns-clause-round
returns-clause-round c = makes_round c.args.known c.args.reached c.args.self.now c.put-2.new.self (returns-clause-settles c)
