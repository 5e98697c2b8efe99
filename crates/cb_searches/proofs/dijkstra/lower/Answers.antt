use Rattle.std.proofs.Common.{◌<◌, [], ◌∷◌, heap_items, arith}
use Rattle.std.proofs.lemmas.List.Elements.{Contains-append_right, Contains-get_or}
use Rattle.std.proofs.lemmas.List.Sorted.{Contains-permutation, length_permutation}
use Rattle.cb_searches.specs.Numbers.{number_at}
use Rattle.cb_searches.proofs.LowerEntries.{number_fits}
use Rattle.cb_searches.proofs.SettledVertices.{work_lowered}
use Rattle.cb_searches.proofs.dijkstra.lower.Goals as goal

pub returns-in_ok-push-clause-stays : goal.returns-in_ok-push-clause-stays
returns-in_ok-push-clause-stays c t h =
    Contains-permutation (c.args.to ∷ heap_items c.args.waiting.now) (heap_items c.push.new.self) t c.in_ok-push.ensures.permutation (Contains-append_right (c.args.to ∷ []) (heap_items c.args.waiting.now) t h)

pub returns-in_ok-push-clause-waits : goal.returns-in_ok-push-clause-waits
returns-in_ok-push-clause-waits c _ =
    Contains-permutation (c.args.to ∷ heap_items c.args.waiting.now) (heap_items c.push.new.self) c.args.to c.in_ok-push.ensures.permutation (Contains-get_or (c.args.to ∷ heap_items c.args.waiting.now) 0 c.args.to (omega arith))

pub returns-in_ok-push-clause-numbers : goal.returns-in_ok-push-clause-numbers
returns-in_ok-push-clause-numbers c n are inside =
    c.in_ok-set.ensures.numbers n are inside (omega (arith, c.if-to-number_of.true, c.number_of.ensures, number_fits n c.args.known.now are c.args.to.vertex))

pub returns-in_ok-push-clause-work : goal.returns-in_ok-push-clause-work
returns-in_ok-push-clause-work c n inside =
    let l : c.args.to.number < number_at c.args.known.now c.args.to.vertex = omega (arith, c.if-to-number_of.true, c.number_of.ensures) in
    work_lowered n c.args.known.now c.set.new.self (heap_items c.args.waiting.now) (heap_items c.push.new.self) c.args.to.vertex c.args.to.number inside l c.in_ok-set.ensures.values
    (omega (arith, length_permutation _ _ c.in_ok-push.ensures.permutation))
