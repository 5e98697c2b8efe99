use Rattle.std.proofs.Common.{◌∙◌, sym}
use Rattle.cb_searches.specs.Numbers.{number_at}
use Rattle.cb_searches.proofs.SearchRounds.{claimed_new}
use Rattle.cb_searches.proofs.breadth_first.claim.Goals as goal

pub returns-in_ok-push-clause-numbers : goal.returns-in_ok-push-clause-numbers
returns-in_ok-push-clause-numbers c n are inside = c.in_ok-set.ensures.numbers n are inside c.requires.number

pub returns-in_ok-push-clause-claimed : goal.returns-in_ok-push-clause-claimed
returns-in_ok-push-clause-claimed c =
    claimed_new c.args.number (number_at c.args.known.now) c.args.queue.now.items c.args.vertex (number_at c.set.new.self) c.push.new.self.items
    (sym c.number_of.ensures ∙ c.if-number_of.true) c.requires.number c.in_ok-set.ensures.values c.in_ok-push.ensures.items
