use Rattle.std.proofs.Common.{map, heap_items}
use Rattle.std.proofs.lemmas.Result.{on_ok_weaker}
use Rattle.cb_searches.specs.Numbers.{number_at}
use Rattle.cb_searches.specs.Settling.{tentative}
use Rattle.cb_searches.proofs.SettledVertices.{settling_more, all_wait}
use Rattle.cb_searches.proofs.dijkstra.settle.Goals as goal

pub returns-clause-settled : goal.returns-clause-settled
returns-clause-settled c =
    let waiting = heap_items c.in_ok-waiting.waiting in
    on_ok_weaker c.settle_waiting.result
    (λ h a f edges is. h a f edges (settling_more a f (number_at c.args.known.now) (map tentative c.args.fell.now) waiting (all_wait c.args.fell.now waiting c.in_ok-waiting.ensures) is))
    c.settle_waiting.ensures.settled
