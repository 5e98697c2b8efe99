use Rattle.cb_rank.proofs.WantedHalf.{wants_shut}
use Rattle.cb_rank.proofs.RankAfterHalf.{shuts_on}
use Rattle.cb_rank.proofs.ranks.Rank.shut.Goals as goal

pub invariant_of-self : goal.invariant_of-self
invariant_of-self g c =
    let next = wants_shut _ (rw (← c.self.view_is) at c.requires) in
    shuts_on _ next.0 c.self.invariant next.1
