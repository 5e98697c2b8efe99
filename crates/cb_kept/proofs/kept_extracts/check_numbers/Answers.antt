use Rattle.std.proofs.Common.{rules, inl, inr, refl}
use Rattle.std.specs.Prelude.{option_copied}
use Rattle.cb_selections.specs.Extracted.{AreBelow, AreFew}
use Rattle.cb_kept.specs.declared.faults.Fault.TheVariants.{TooLarge, Place}
use Rattle.cb_kept.specs.KeptExtracts.{number_faults}
use Rattle.cb_kept.proofs.Firsts.{passed, no_more}
use Rattle.cb_kept.proofs.kept_extracts.check_numbers.Goals as goal

pub returns-then-not-are_few-clause-fault : goal.returns-then-not-are_few-clause-fault
unfolding number_faults
returns-then-not-are_few-clause-fault c =
    let n : AreFew (option_copied c.args.rows) × AreFew (option_copied c.args.cols) → ⊥ = search rules in
    inl (refl, n)

pub returns-then-not-are_below-clause-fault : goal.returns-then-not-are_below-clause-fault
unfolding number_faults
returns-then-not-are_below-clause-fault c =
    let few : AreFew (option_copied c.args.rows) × AreFew (option_copied c.args.cols) = search rules in
    let n : AreBelow c.args.shape.rows (option_copied c.args.rows) × AreBelow c.args.shape.cols (option_copied c.args.cols) → ⊥ = search rules in
    inr (few, inl (refl, n))

pub returns-clause-none : goal.returns-clause-none
unfolding number_faults
returns-clause-none c =
    let few : AreFew (option_copied c.args.rows) × AreFew (option_copied c.args.cols) = search rules in
    let are : AreBelow c.args.shape.rows (option_copied c.args.rows) × AreBelow c.args.shape.cols (option_copied c.args.cols) = search rules in
    passed _ TooLarge _ few (passed _ Place _ are no_more)
