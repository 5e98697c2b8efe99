-- The stores that are left, and those of the ranks so far, are the first ones.
use Rattle.std.proofs.Common.{◌≡◌, ◌≤◌, ◌∷◌, [], ◌++◌, length, length-append, sym, ◌∙◌, ap, subst, arith}
use Rattle.std.specs.Prelude.{map, reverse}
use Rattle.cb_rank.specs.Ranks.{RankView, new_rank}
use Rattle.cb_rank_world.proofs.NewRanks.{AreStarting, store_fits, one_rank_more, all_back}
use Rattle.cb_rank_world.proofs.starting.start_ranks.Goals as goal

pub start-requires-clause-fits : goal.start-requires-clause-fits
start-requires-clause-fits g c =
    let are = c.loop-store.invariant.0 in
    store_fits c.args.plan.now c.args.stores.items c.loop-store.stores.items c.pop.new.self.items c.in-Some.store c.loop-store.ranks.items are.0 c.len.result c.requires are.1 c.in-Some.ensures.items (c.len.ensures ∙ c.pop.new.self.ok.0)

pub loop-store-preserved : goal.loop-store-preserved
loop-store-preserved g c =
    let are = c.loop-store.invariant.0 in
    let number : c.len.result ≡ length c.pop.new.self.items = c.len.ensures ∙ c.pop.new.self.ok.0 in
    let before : AreStarting c.args.plan.now c.args.stores.items (c.pop.new.self.items ++ c.in-Some.store ∷ []) c.loop-store.ranks.items are.0 = subst (λ xs. AreStarting c.args.plan.now c.args.stores.items xs c.loop-store.ranks.items are.0) c.in-Some.ensures.items are.1 in
    let more = one_rank_more c.args.plan.now c.args.stores.items c.pop.new.self.items c.in-Some.store c.loop-store.ranks.items are.0 before in
    let rank : c.in-Ok-start.rank ≡ new_rank c.args.plan.now (length c.pop.new.self.items) c.in-Some.store = c.in-Ok-start.ensures.new ∙ ap (λ n. new_rank c.args.plan.now n c.in-Some.store) number in
    let made : c.push_reserved.new.self.items ≡ c.loop-store.ranks.items ++ new_rank c.args.plan.now (length c.pop.new.self.items) c.in-Some.store ∷ [] = c.push_reserved.ensures.items ∙ ap (λ r. c.loop-store.ranks.items ++ r ∷ []) rank in
    let left = ap length c.in-Some.ensures.items ∙ length-append c.pop.new.self.items (c.in-Some.store ∷ []) in
    let right = ap length c.push_reserved.ensures.items ∙ length-append c.loop-store.ranks.items (c.in-Ok-start.rank ∷ []) in
    let count = c.loop-store.invariant.1 in
    let room = subst (λ n. c.args.plan.now.ranks ≤ n) (sym c.in-Some.ensures.capacity) c.loop-store.invariant.3 in
    let more_room = subst (λ n. c.args.plan.now.ranks ≤ n) (sym c.push_reserved.ensures.capacity) c.loop-store.invariant.4 in
    ((c.in-Some.store ∷ are.0, subst (λ rs. AreStarting c.args.plan.now c.args.stores.items c.pop.new.self.items rs (c.in-Some.store ∷ are.0)) (sym made) more), omega arith, c.loop-store.invariant.2, room, more_room)

pub returns-in-Err-start-clause-back : goal.returns-in-Err-start-clause-back
returns-in-Err-start-clause-back g c =
    let are = c.loop-store.invariant.0 in
    let back = all_back c.args.plan.now c.args.stores.items c.loop-store.stores.items c.loop-store.ranks.items are.0 are.1 in
    let put : c.push_reserved-in-Err-start.new.self.items ≡ c.loop-store.stores.items = c.push_reserved-in-Err-start.ensures.items ∙ ap (λ s. c.pop.new.self.items ++ s ∷ []) c.in-Err-start.ensures.back ∙ sym c.in-Some.ensures.items in
    c.with_stores_of.ensures ∙ ap (λ xs. xs ++ map (λ (x : RankView). x.slots) (reverse c.loop-store.ranks.items)) put ∙ back
