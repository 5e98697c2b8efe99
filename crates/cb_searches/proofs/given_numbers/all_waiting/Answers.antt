use Rattle.std.proofs.Common.{◌∷◌, ◌∙◌, heap_items, ap, subst, arith}
use Rattle.std.specs.List.Sorted.{IsPermutation}
use Rattle.cb_searches.specs.declared.dijkstra.Tentative.{Tentative}
use Rattle.cb_searches.specs.Settling.{tentative}
use Rattle.cb_searches.proofs.SettledVertices.{one_more_waits, all_of_them}
use Rattle.cb_searches.proofs.given_numbers.all_waiting.Goals as goal

pub loop-n-preserved : goal.loop-n-preserved
loop-n-preserved c =
    let now = heap_items c.push.new.self in
    one_more_waits c.args.given.now.entries c.loop-n.n c.entry_at.result (heap_items c.loop-n.waiting) now (omega arith)
    (subst (λ (t : Tentative). IsPermutation (t ∷ heap_items c.loop-n.waiting) now) (c.of.ensures ∙ ap tentative c.entry_at.ensures) c.in_ok-push.ensures.permutation) c.loop-n.invariant

pub returns : goal.returns
returns c = all_of_them c.args.given.now.entries c.loop-n.n _ (omega arith) c.loop-n.invariant
