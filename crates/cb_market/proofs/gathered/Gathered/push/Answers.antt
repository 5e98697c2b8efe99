use Rattle.std.proofs.Common.{rules, arith, ap}
use Rattle.cb_layout.specs.Distributed.{Distributed}
use Rattle.cb_market.proofs.Gatherings.{all_earlier, gathered_one, gathered_listed, gathered_moved}
use Rattle.cb_market.proofs.gathered.Gathered.push.Goals as goal

pub push-requires-then-entry-zero-clause-order : goal.push-requires-then-entry-zero-clause-order
push-requires-then-entry-zero-clause-order g c = all_earlier _ c.self.inside.bound _ c.args.entry c.place_number-place.ensures c.self.invariant.below c.if-self-place.true (search arith)

pub invariant_of-self-then-not-self : goal.invariant_of-self-then-not-self
invariant_of-self-then-not-self g c =
    gathered_listed g.S.Semiring.arithmetic c.self.inside.blocks.matrix _ _ c.self.inside.ascends _ _ c.args.entry c.self.invariant (search rules) c.in_ok-push.ensures.items (search rules) c.requires.value

pub invariant_of-self-then-entry-zero : goal.invariant_of-self-then-entry-zero
invariant_of-self-then-entry-zero g c =
    gathered_one g.S.Semiring.arithmetic c.self.inside.blocks.matrix _ _ c.self.inside.ascends _ c.self.inside.bound _ _ c.args.entry c.self.invariant (search rules) (ap (λ (d : Distributed). d.matrix) c.in_ok-push-2.ensures.ok)
    c.place_number-place.ensures c.if-self-place.true c.min-self-inside.ensures

pub invariant_of-self-2 : goal.invariant_of-self-2
invariant_of-self-2 g c =
    let e = c.in_ok-self-inside.ensures in
    gathered_moved g.S.Semiring.arithmetic c.move_to_list.new.blocks.matrix c.self.inside.blocks.matrix.shape _ _ _ e.shape e.moved e.inside e.values
