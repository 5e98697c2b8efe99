use Rattle.std.proofs.Common.{rules, inl, inr, refl}
use Rattle.cb_lists.specs.Lists.{HasForm, Fits, HaveLengths, AreOrdered, AreInside}
use Rattle.cb_kept.specs.Refusals.{matrix_faults}
use Rattle.cb_kept.proofs.kept_lists.check_lists.Goals as goal

pub returns-then-not-are_inside-clause-fault : goal.returns-then-not-are_inside-clause-fault
unfolding matrix_faults
returns-then-not-are_inside-clause-fault g c =
    let form : HasForm c.args.lists.now = search rules in
    let fits : Fits c.args.lists.now = search rules in
    let lengths : HaveLengths c.args.lists.now = search rules in
    let ordered : AreOrdered c.args.lists.now = search rules in
    let outside : AreInside c.args.lists.now → ⊥ = search rules in
    inr (form, inr (fits, inr (lengths, inr (ordered, inl (refl, outside)))))
