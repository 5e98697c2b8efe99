use Rattle.std.proofs.Common.{ap, get_or, sym, ◌∙◌}
use Rattle.std.proofs.lemmas.Bool.{ltb-true}
use Rattle.std.proofs.lemmas.List.{get_or_default}
use Rattle.cb_product.proofs.AbsentColumns.{none_noted}
use Rattle.cb_product.proofs.column_index.range_at.Goals as goal

pub returns-then-place-clause-entries : goal.returns-then-place-clause-entries
returns-then-place-clause-entries g c =
    let places = c.args.places.now in
    let found = c.in-Some.ensures.lookup in
    let here = get_or_default places c.slot.result c.in-Some.place.now 0 (ltb-true _ _ (sym found.0)) in
    let none = ap (λ n. get_or places n 0) (sym c.slot.ensures) ∙ sym here ∙ sym found.1 ∙ c.if-place.true in
    none_noted c.args.column c.args.block.now.entries places c.args.shift c.requires none
