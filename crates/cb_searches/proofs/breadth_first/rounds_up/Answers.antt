use Rattle.std.proofs.Common.{◌≡◌, ℕ, sym, List, subst}
use Rattle.cb_searches.specs.Numbers.{listed_at}
use Rattle.cb_searches.specs.BreadthFirst.{AreLevelsWithin}
use Rattle.cb_searches.proofs.LevelRounds.{ended}
use Rattle.cb_searches.proofs.breadth_first.rounds_up.Goals as goal

pub returns-then-reached-eq0-clause-ended : goal.returns-then-reached-eq0-clause-ended
returns-then-reached-eq0-clause-ended c source is =
    let a = c.args.graph.now in
    let k = c.loop-rounds.rounds in
    let new = c.round_up-reached.new.list in
    let before = c.loop-rounds.invariant.levels source is in
    let same : new ≡ c.loop-rounds.list = c.round_up-reached.ensures.none c.if-reached-eq0.true in
    ended a source (listed_at new) k (subst (λ (xs : List ℕ). AreLevelsWithin a source k (listed_at xs)) (sym same) before) (c.round_up-reached.ensures.round source before)
