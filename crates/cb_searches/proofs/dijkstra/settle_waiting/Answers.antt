use Rattle.std.proofs.Common.{◌≡◌, ◌∷◌, length, heap_items, rules, sym, ◌∙◌, arith}
use Rattle.cb_searches.specs.Numbers.{number_at}
use Rattle.cb_searches.proofs.SettledVertices.{settling_more, settling_moved, passed_over}
use Rattle.cb_searches.proofs.dijkstra.settle_waiting.Goals as goal

pub loop-least-preserved-in-Continue-1 : goal.loop-least-preserved-in-Continue-1
loop-least-preserved-in-Continue-1 c = record {
  numbers = c.in_ok-relax_edges.ensures.numbers;
  settling = λ a f edges is.
      c.in_ok-relax_edges.ensures.settling a f edges
      (settling_moved a f (number_at c.loop-least.known) (heap_items c.loop-least.waiting) (c.in-Some.least ∷ heap_items c.pop.new.self) c.in-Some.ensures.permutation (c.loop-least.invariant.settling a f edges is));
}

pub loop-least-preserved : goal.loop-least-preserved
loop-least-preserved c = record {
  numbers = c.loop-least.invariant.numbers;
  settling = λ a f edges is.
      passed_over a f (number_at c.loop-least.known) (heap_items c.loop-least.waiting) (heap_items c.pop.new.self) c.in-Some.least c.in-Some.ensures.permutation
      (λ e. c.if-least-number_of.false (e ∙ sym c.number_of.ensures)) (c.loop-least.invariant.settling a f edges is);
}

pub returns-clause-settled : goal.returns-clause-settled
returns-clause-settled c = λ a f edges is.
    let none : length (heap_items c.loop-least.waiting) ≡ 0 = search rules in
    settling_more a f (number_at c.loop-least.known) (heap_items c.loop-least.waiting) _ (λ t h. absurd (omega (arith, none, h.1))) (c.loop-least.invariant.settling a f edges is)
