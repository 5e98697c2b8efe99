use Rattle.std.proofs.Common.{◌≡◌, ◌≢◌, sym, ap, subst, ◌∙◌}
use Rattle.std.specs.Prelude.{All, IfSome}
use Rattle.std.proofs.lemmas.Result.{IfOk-weaker}
use Rattle.cb_semirings.specs.Arithmetic.{IsValue}
use Rattle.cb_matrix.specs.Sparse.{Sparse}
use Rattle.cb_dcsc.specs.Columns.{revalued}
use Rattle.cb_dcsc.proofs.Lookup.{all_values}
use Rattle.cb_operations.specs.Functions.{operand_of}
use Rattle.cb_operations.specs.SelectionAnswers.{applied}
use Rattle.cb_selections.specs.KernelSteps.{results_of}
use Rattle.cb_selections.proofs.FunctionResults.{are_operands, are_results, applied_is, made_are}
use Rattle.cb_selections.proofs.apply.Goals as goal

pub results-requires-clause-values : goal.results-requires-clause-values
results-requires-clause-values g c = all_values g.S.Semiring.arithmetic c.args.block.now c.values-values.result.now c.shape.ensures.matrix c.values-values.ensures

pub results-requires-clause-operands : goal.results-requires-clause-operands
results-requires-clause-operands g c =
    let s = g.S.Semiring.arithmetic in
    let f = c.args.function in
    let free = sym c.depends_on_column.ensures ∙ c.if-not-depends_on_column.true in
    subst (All (λ i. IsValue s (operand_of f i 0))) (sym c.row_numbers-rows.ensures) (are_operands s f free c.args.block.now c.shape.ensures.matrix c.requires)

pub with_values-requires-clause-values : goal.with_values-requires-clause-values
with_values-requires-clause-values g c =
    let s = g.S.Semiring.arithmetic in
    let f = c.args.function in
    let are = made_are s f (λ v. v.items) (sym c.depends_on_column.ensures ∙ c.if-not-depends_on_column.true) c.args.block.now.entries c.row_numbers-rows.result.now c.values-values.result.now
    c.row_numbers-rows.ensures c.values-values.ensures c.in_ok-made.field-0 c.in-Some.made c.in-Some.is c.in_ok-made.ensures.made in
    subst (All (IsValue s)) (sym are) (are_results s f g.met.S.Semiring.is_semiring c.args.block.now c.shape.ensures.matrix c.requires)

pub returns-in-Some : goal.returns-in-Some
returns-in-Some g c =
    let s = g.S.Semiring.arithmetic in
    let a = c.args.block.now in
    let f = c.args.function in
    let vs = c.in-Some.made.items in
    let are : vs ≡ results_of s f a.entries = made_are s f (λ v. v.items) (sym c.depends_on_column.ensures ∙ c.if-not-depends_on_column.true) c.args.block.now.entries c.row_numbers-rows.result.now c.values-values.result.now
    c.row_numbers-rows.ensures c.values-values.ensures c.in_ok-made.field-0 c.in-Some.made c.in-Some.is c.in_ok-made.ensures.made in
    let some : All (λ v. v ≢ s.zero) vs = subst (λ o. IfSome o (λ list. All (λ v. v ≢ s.zero) list.items)) c.in-Some.is c.in_ok-made.ensures.not_zero in
    IfOk-weaker c.with_values.result (λ m. m ≡ record { shape = a.shape; entries = revalued a.entries vs }) (λ m. m ≡ applied s f a)
    (λ m is. is ∙ ap (λ xs. let y : Sparse = record { shape = a.shape; entries = revalued a.entries xs } in y) are ∙ applied_is s f g.met.S.Semiring.is_semiring a c.shape.ensures.matrix c.requires (subst (All (λ v. v ≢ s.zero)) are some)) c.with_values.ensures
