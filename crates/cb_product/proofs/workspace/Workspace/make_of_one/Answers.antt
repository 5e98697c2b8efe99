use Rattle.std.proofs.Common.{ℕ, ap, sym, ◌∙◌, arith}
use Rattle.std.proofs.lemmas.Result.{on_ok_weaker}
use Rattle.std.proofs.lemmas.List.Elements.{All-take, All-drop, All-get_or}
use Rattle.cb_semirings.specs.Arithmetic.{IsValue}
use Rattle.cb_dcsc.specs.Columns.{rows_of, values_of, row_value}
use Rattle.cb_dcsc.proofs.Lookup.{all_values}
use Rattle.cb_product.specs.declared.terms.Term.{Term}
use Rattle.cb_product.specs.Terms.{IsTerm}
use Rattle.cb_product.proofs.TermSums.{matrix_values, terms_value-one}
use Rattle.cb_product.proofs.workspace.Workspace.make_of_one.Goals as goal

pub join-requires-clause-values : goal.join-requires-clause-values
join-requires-clause-values g c = All-take (IsValue g.S.Semiring.arithmetic) _ _ (All-drop (IsValue g.S.Semiring.arithmetic) _ _ (all_values g.S.Semiring.arithmetic c.args.left.now _ c.requires.left c.values-values.ensures))

pub returns-clause-column : goal.returns-clause-column
returns-clause-column g c =
    let s = g.S.Semiring.arithmetic in
    let a = c.args.left.now in
    let ts = c.args.terms.now in
    let d : Term = record { row = 0; at = 0; end = 0; scale = 0; before = 0; ends = 0 } in
    let one = c.requires.one in
    let term = All-get_or (IsTerm s (rows_of a.entries)) ts 0 d (omega (arith, one)) c.requires.terms in
    let sum = λ (i : ℕ). terms_value-one s g.met.S.Semiring.is_semiring (rows_of a.entries) (values_of a.entries) (matrix_values s g.met.S.Semiring.is_semiring a c.requires.left) i ts d one term.scale in
    let joined = rw (c.row_numbers-rows.ensures, c.values-values.ensures) at c.join.ensures in
    on_ok_weaker c.join.result (λ h i. h i ∙ ap (s.add (row_value s.zero c.args.own_rows.now c.args.own_values.now i)) (sym (sum i))) joined

pub join-requires-clause-own_lengths : goal.join-requires-clause-own_lengths
join-requires-clause-own_lengths g c = c.requires.own.same_length

pub join-requires-clause-own_values : goal.join-requires-clause-own_values
join-requires-clause-own_values g c = c.requires.own.are_values

pub join-requires-clause-own_order : goal.join-requires-clause-own_order
join-requires-clause-own_order g c = c.requires.own.ascending

pub join-requires-clause-order : goal.join-requires-clause-order
join-requires-clause-order g c =
    let d : Term = record { row = 0; at = 0; end = 0; scale = 0; before = 0; ends = 0 } in
    let one = c.requires.one in
    let term = All-get_or (IsTerm g.S.Semiring.arithmetic (rows_of c.args.left.now.entries)) c.args.terms.now 0 d (omega (arith, one)) c.requires.terms in
    rw c.row_numbers-rows.ensures term.ascending

pub join-requires-clause-scale : goal.join-requires-clause-scale
join-requires-clause-scale g c =
    let d : Term = record { row = 0; at = 0; end = 0; scale = 0; before = 0; ends = 0 } in
    let one = c.requires.one in
    let term = All-get_or (IsTerm g.S.Semiring.arithmetic (rows_of c.args.left.now.entries)) c.args.terms.now 0 d (omega (arith, one)) c.requires.terms in
    term.scale
