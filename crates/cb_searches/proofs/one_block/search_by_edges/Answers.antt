use Rattle.std.proofs.Common.{◌≡◌, ℕ, ◌∙◌, sym, ap, arith}
use Rattle.std.proofs.lemmas.Result.{IfOk-weaker}
use Rattle.cb_semirings.specs.Tables.{min_plus}
use Rattle.cb_matrix.specs.Sparse.{Sparse, Extent}
use Rattle.cb_matrix.specs.Operations.{transposed}
use Rattle.cb_searches.specs.declared.searches.Search.{Search}
use Rattle.cb_searches.specs.Searches.{HasEdges, IsSearch, IsWholeSearch}
use Rattle.cb_searches.proofs.one_block.search_by_edges.Goals as goal

pub begin-requires : goal.begin-requires
begin-requires c =
    let g = c.requires.graph in
    let rows : c.shape-shape.result.rows ≡ g.0.shape.cols = ap (λ (e : Extent). e.rows) c.shape-shape.ensures.shape ∙ ap (λ (m : Sparse). m.shape.rows) g.1.turned in
    let cols : c.args.edges.now.shape.cols ≡ g.0.shape.rows = ap (λ (m : Sparse). m.shape.cols) g.1.turned in
    omega (arith, rows, cols, g.1.square, c.requires.source)

pub loop-round-init : goal.loop-round-init
loop-round-init c = λ a is.
    let rows : a.shape.rows ≡ c.shape-shape.result.rows = is.square ∙ sym (ap (λ (e : Extent). e.rows) c.shape-shape.ensures.shape ∙ ap (λ (m : Sparse). m.shape.rows) is.turned) in
    let cols : a.shape.cols ≡ c.shape-shape.result.cols = sym (ap (λ (e : Extent). e.cols) c.shape-shape.ensures.shape ∙ ap (λ (m : Sparse). m.shape.cols) is.turned ∙ is.square) in
    c.in_ok-search.ensures a is.matrix (λ t. record { rows = rows t; cols = cols t }) is.square

pub round-requires : goal.round-requires
round-requires c =
    let g = c.requires.graph in
    record { round = (g.0, c.args.source, c.loop-round._round, c.loop-round.invariant g.0 g.1, g.1.turned) }

pub loop-round-preserved : goal.loop-round-preserved
loop-round-preserved c = λ a is. c.in_ok-search-2.ensures a c.args.source c.loop-round._round (c.loop-round.invariant a is) is.turned

pub settle-requires : goal.settle-requires
settle-requires c =
    let g = c.requires.graph in
    record { round = (g.0, c.args.source, c.loop-round._round, c.loop-round.invariant g.0 g.1, g.1.turned) }

pub returns : goal.returns
returns c =
    IfOk-weaker c.settle.result (λ (s : Search). (a : Sparse) (source k : ℕ) → IsSearch a source k c.loop-round.search → c.args.edges.now ≡ transposed min_plus a → IsWholeSearch a source k s)
    (λ (s : Search). (a : Sparse) → HasEdges c.args.edges.now a → (k : ℕ) × IsWholeSearch a c.args.source k s)
    (λ s h a is. (c.loop-round._round, h a c.args.source c.loop-round._round (c.loop-round.invariant a is) is.turned)) c.settle.ensures
