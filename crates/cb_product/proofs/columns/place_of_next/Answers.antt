use Rattle.std.proofs.Common.{◌∙◌}
use Rattle.std.proofs.lemmas.List.{get_or_default}
use Rattle.cb_dcsc.proofs.Held.{not_found, same_number}
use Rattle.cb_product.proofs.columns.place_of_next.Goals as goal

pub returns-in-Ok-clause-column : goal.returns-in-Ok-clause-column
returns-in-Ok-clause-column c = same_number _ _ (c.in-Ok.ensures.ok 0)

pub returns-in-Err-clause-none : goal.returns-in-Err-clause-none
returns-in-Err-clause-none c =
    λ k d l e. not_found c.args.columns.now c.args.column _ c.requires c.in-Err.ensures.position k l (get_or_default c.args.columns.now k 0 d l ∙ e)
