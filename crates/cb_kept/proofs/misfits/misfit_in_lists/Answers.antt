use Rattle.std.proofs.Common.{rules, refl}
use Rattle.cb_lists.specs.Lists.{HasForm, Fits, HaveLengths, AreOrdered, AreInside}
use Rattle.cb_kept.proofs.FirstMisfits.{no_misfit, order_misfit, place_misfit, value_misfit}
use Rattle.cb_kept.proofs.misfits.misfit_in_lists.Goals as goal

pub returns-then-not-are_measured : goal.returns-then-not-are_measured
returns-then-not-are_measured g c f h =
    let n : HasForm c.args.lists.now × Fits c.args.lists.now × HaveLengths c.args.lists.now → ⊥ = search rules in
    no_misfit g.S.Semiring.arithmetic c.args.lists.now f 0 n h

pub returns-then-not-are_ordered : goal.returns-then-not-are_ordered
returns-then-not-are_ordered g c f h =
    let m : HasForm c.args.lists.now × Fits c.args.lists.now × HaveLengths c.args.lists.now = c.if-not-are_measured.ensures.0 refl in
    let n : AreOrdered c.args.lists.now → ⊥ = search rules in
    order_misfit g.S.Semiring.arithmetic c.args.lists.now f c.unordered.result m.0 m.1 m.2 n c.unordered.ensures h

pub returns-then-not-are_inside : goal.returns-then-not-are_inside
returns-then-not-are_inside g c f h =
    let m : HasForm c.args.lists.now × Fits c.args.lists.now × HaveLengths c.args.lists.now = c.if-not-are_measured.ensures.0 refl in
    let o : AreOrdered c.args.lists.now = search rules in
    let n : AreInside c.args.lists.now → ⊥ = search rules in
    place_misfit g.S.Semiring.arithmetic c.args.lists.now f c.outside.result m.0 m.1 m.2 o n c.outside.ensures h

pub returns : goal.returns
returns g c f h =
    let m : HasForm c.args.lists.now × Fits c.args.lists.now × HaveLengths c.args.lists.now = c.if-not-are_measured.ensures.0 refl in
    let o : AreOrdered c.args.lists.now = search rules in
    let i : AreInside c.args.lists.now = search rules in
    value_misfit g.S.Semiring.arithmetic c.args.lists.now f c.first_other.result m.0 m.1 m.2 o i c.first_other.ensures h
