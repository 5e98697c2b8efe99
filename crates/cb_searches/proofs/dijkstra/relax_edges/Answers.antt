use Rattle.std.proofs.Common.{◌<◌, length, get_or, heap_items, arith}
use Rattle.std.proofs.lemmas.List.Elements.{All-get_or}
use Rattle.cb_semirings.specs.Tables.{min_plus}
use Rattle.cb_dcsc.proofs.Lookup.{rows_inside, ascending_rows, as_long}
use Rattle.cb_searches.specs.Numbers.{number_at}
use Rattle.cb_searches.proofs.RelaxedEdges.{edges_are, relaxing_begun, relaxing_step, relaxing_done}
use Rattle.cb_searches.proofs.dijkstra.relax_edges.Goals as goal

pub loop-n-init : goal.loop-n-init
loop-n-init c = record {
  numbers = c.requires.numbers;
  work = omega arith;
  relaxing = λ a f _ is. relaxing_begun a f (heap_items c.args.waiting.now) c.args.from c.edges_of.result.0.now c.edges_of.result.1.now (number_at c.args.known.now) c.requires.current is;
}

pub lower-requires : goal.lower-requires
lower-requires c =
    let edges = c.args.edges.now in
    let rows = c.edges_of.result.0.now in
    record { vertex = (edges.shape.rows, c.loop-n.invariant.numbers, All-get_or (λ i. i < edges.shape.rows) rows c.loop-n.n 0 (omega arith) (rows_inside min_plus edges c.args.from.vertex rows c.shape-shape.ensures.matrix c.edges_of.ensures.rows)) }

pub loop-n-preserved : goal.loop-n-preserved
loop-n-preserved c =
    let edges = c.args.edges.now in
    let rows = c.edges_of.result.0.now in
    let values = c.edges_of.result.1.now in
    let u = c.args.from.vertex in
    let n = c.loop-n.n in
    let l : n < length rows = omega arith in
    let inside : get_or rows n 0 < edges.shape.rows = All-get_or (λ i. i < edges.shape.rows) rows n 0 l (rows_inside min_plus edges u rows c.shape-shape.ensures.matrix c.edges_of.ensures.rows) in
    let lower = c.in_ok-lower.ensures in
    record {
      numbers = lower.numbers edges.shape.rows c.loop-n.invariant.numbers inside;
      work = omega (arith, lower.work edges.shape.rows inside, c.loop-n.invariant.work);
      relaxing = λ a f same is.
          relaxing_step a f (heap_items c.loop-n.waiting) c.args.from rows values (as_long edges.entries rows values u c.edges_of.ensures.rows c.edges_of.ensures.values) (edges_are edges a same u rows values c.edges_of.ensures.rows c.edges_of.ensures.values)
          (ascending_rows min_plus edges u rows c.shape-shape.ensures.matrix c.edges_of.ensures.rows) n l (number_at c.loop-n.known) (number_at c.lower.new.known) (heap_items c.lower.new.waiting) (record { number = c.saturating_add.result; vertex = get_or rows n 0 }) (omega (arith, c.saturating_add.ensures)) (λ _. get_or rows n 0)
          lower.least lower.stays lower.waits (c.loop-n.invariant.relaxing a f same is);
    }

pub returns-clause-settling : goal.returns-clause-settling
returns-clause-settling c = λ a f same is.
    let edges = c.args.edges.now in
    let rows = c.edges_of.result.0.now in
    let values = c.edges_of.result.1.now in
    let u = c.args.from.vertex in
    relaxing_done a f (heap_items c.loop-n.waiting) c.args.from rows values (as_long edges.entries rows values u c.edges_of.ensures.rows c.edges_of.ensures.values) (edges_are edges a same u rows values c.edges_of.ensures.rows c.edges_of.ensures.values) (number_at c.loop-n.known) c.loop-n.n (omega arith) (c.loop-n.invariant.relaxing a f same is)
