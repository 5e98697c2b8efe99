use Rattle.std.proofs.Common.{◌∷◌, heap_items, subst}
use Rattle.std.specs.List.Sorted.{IsPermutation}
use Rattle.cb_searches.specs.declared.dijkstra.Tentative.{Tentative}
use Rattle.cb_searches.proofs.SettledVertices.{one_more_waits, all_of_them}
use Rattle.cb_searches.proofs.dijkstra.waiting_of.Goals as goal

pub loop-entry-preserved : goal.loop-entry-preserved
loop-entry-preserved c =
    let now = heap_items c.push.new.self in
    one_more_waits c.args.fell.now c.loop-entry.entry-index _ _ now c.loop-entry-test.true (subst (λ (t : Tentative). IsPermutation (t ∷ heap_items c.loop-entry.waiting) now) c.of.ensures c.in_ok-push.ensures.permutation) c.loop-entry.invariant

pub returns : goal.returns
returns c = all_of_them c.args.fell.now c.loop-entry.entry-index _ c.loop-entry-test.false c.loop-entry.invariant
