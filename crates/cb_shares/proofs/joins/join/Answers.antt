use Rattle.cb_shares.proofs.Neighbours.{joins}
use Rattle.cb_shares.proofs.joins.join.Goals as goal

pub returns-clause-panels : goal.returns-clause-panels
returns-clause-panels g c = joins g.S.Semiring.arithmetic c.args.front.now c.args.back.now c.append.new.self c.in_ok-append.ensures.ok
