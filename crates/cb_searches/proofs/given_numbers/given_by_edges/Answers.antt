use Rattle.std.proofs.Common.{◌≡◌, ℕ, ◌∙◌, map, heap_items, sym, ap, subst}
use Rattle.std.proofs.lemmas.Result.{IfOk-weaker}
use Rattle.cb_semirings.specs.Tables.{min_plus}
use Rattle.cb_matrix.specs.Sparse.{Sparse, Extent, at}
use Rattle.cb_searches.specs.Walks.{column_shape}
use Rattle.cb_searches.specs.Numbers.{number_at, AreNumbers}
use Rattle.cb_searches.specs.Searches.{HasEdges}
use Rattle.cb_searches.specs.Settling.{tentative}
use Rattle.cb_searches.specs.GivenNumbers.{AreDistancesGiven}
use Rattle.cb_searches.proofs.NearestRounds.{both}
use Rattle.cb_searches.proofs.SettledVertices.{settling_more, all_wait}
use Rattle.cb_searches.proofs.NearestGiven.{given_found}
use Rattle.cb_searches.proofs.given_numbers.given_by_edges.Goals as goal

pub first_numbers-requires : goal.first_numbers-requires
first_numbers-requires c = record { column = ap (λ (e : Extent). e.cols) c.requires.graph.2 }

pub settle_waiting-requires : goal.settle_waiting-requires
settle_waiting-requires c =
    let g = c.requires.graph in
    record { numbers = subst (λ n. AreNumbers n c.in_ok-known.known) (ap (λ (e : Extent). e.rows) g.2 ∙ g.1.square ∙ sym (ap (λ (m : Sparse). m.shape.rows) g.1.turned)) c.in_ok-known.ensures.numbers }

pub column-requires-clause-column : goal.column-requires-clause-column
column-requires-clause-column c = ap (λ (e : Extent). e.cols) (c.shape.ensures.shape ∙ c.requires.graph.2)

pub column-requires-clause-numbers : goal.column-requires-clause-numbers
column-requires-clause-numbers c =
    let g = c.requires.graph in
    subst (λ n. AreNumbers n c.settle_waiting.new.known) (ap (λ (m : Sparse). m.shape.rows) g.1.turned ∙ sym g.1.square ∙ sym (ap (λ (e : Extent). e.rows) (c.shape.ensures.shape ∙ g.2))) c.in_ok-settle_waiting.ensures.numbers

pub returns-clause-distances : goal.returns-clause-distances
returns-clause-distances c =
    let given = c.args.given.now in
    let known = c.in_ok-known.known in
    let waiting = heap_items c.in_ok-waiting.waiting in
    let new = c.settle_waiting.new.known in
    IfOk-weaker c.column.result (λ (m : Sparse). (m.shape ≡ c.shape.result) × ((v : ℕ) → at min_plus m v 0 ≡ number_at new v))
    (λ (column : Sparse). (a : Sparse) → HasEdges c.args.edges.now a → given.shape ≡ column_shape a → AreDistancesGiven a given column)
    (λ column h a has shape.
    given_found c.args.edges.now a given given.shape.rows c.args.edges.now.shape.rows known new has c.in_ok-known.ensures.numbers c.in_ok-known.ensures.values c.in_ok-settle_waiting.ensures.numbers
    (λ a f edges is. c.in_ok-settle_waiting.ensures.settled a f edges (settling_more a f (number_at known) (map tentative given.entries) waiting (all_wait given.entries waiting c.in_ok-waiting.ensures) is)) column
    (h.0 ∙ c.shape.ensures.shape ∙ shape) h.1)
    (both c.column.result (λ (m : Sparse). m.shape ≡ c.shape.result) (λ (m : Sparse). (v : ℕ) → at min_plus m v 0 ≡ number_at new v) c.column.ensures.shape c.column.ensures.values)
