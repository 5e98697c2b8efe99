use Rattle.std.proofs.Common.{◌≡◌, ◌≢◌, ◌<◌, length, get_or, sym, ap, ◌∙◌, subst}
use Rattle.std.specs.Prelude.{AllPairs}
use Rattle.std.proofs.lemmas.Bool.{false≢true}
use Rattle.cb_dcsc.specs.Columns.{in_column, rows_of, values_of, columns_with_entries}
use Rattle.cb_dcsc.proofs.ColumnEntries.{in_column-none}
use Rattle.cb_dcsc.proofs.NumbersOfColumns.{entries_all}
use Rattle.cb_selections.proofs.AssignedPart.{not_nth}
use Rattle.cb_selections.proofs.assignments.column_at.Goals as goal

pub nth_column-requires : goal.nth_column-requires
nth_column-requires g c = subst (λ cs. c.args.n < length cs) c.column_numbers.ensures.numbers (c.is_nth.ensures.0 c.if-is_nth.true).0

pub returns-then-is_nth-clause-rows : goal.returns-then-is_nth-clause-rows
returns-then-is_nth-clause-rows g c =
    c.nth_column.ensures.rows ∙ ap (λ j. rows_of (in_column j c.args.block.now.entries)) (sym (ap (λ cs. get_or cs c.args.n 0) c.column_numbers.ensures.numbers) ∙ (c.is_nth.ensures.0 c.if-is_nth.true).1)

pub returns-then-is_nth-clause-values : goal.returns-then-is_nth-clause-values
returns-then-is_nth-clause-values g c =
    c.nth_column.ensures.values ∙ ap (λ j. values_of (in_column j c.args.block.now.entries)) (sym (ap (λ cs. get_or cs c.args.n 0) c.column_numbers.ensures.numbers) ∙ (c.is_nth.ensures.0 c.if-is_nth.true).1)

pub returns-clause-rows : goal.returns-clause-rows
returns-clause-rows g c =
    let es = c.args.block.now.entries in
    let cs = columns_with_entries es in
    let numbers = c.column_numbers.ensures.numbers in
    let up : AllPairs (λ i j. i < j) cs = subst (AllPairs (λ i j. i < j)) numbers c.column_numbers.ensures.ascending in
    let other : (c.args.n < length cs) × (get_or cs c.args.n 0 ≡ c.args.column) → ⊥ = λ e. false≢true (sym c.if-is_nth.false ∙ c.is_nth.ensures.1 (subst (λ xs. (c.args.n < length xs) × (get_or xs c.args.n 0 ≡ c.args.column)) (sym numbers) e)) in
    sym (ap rows_of (in_column-none c.args.column es (entries_all (λ q. q ≢ c.args.column) es (not_nth cs c.args.column c.args.n up other c.requires))))

pub returns-clause-values : goal.returns-clause-values
returns-clause-values g c =
    let es = c.args.block.now.entries in
    let cs = columns_with_entries es in
    let numbers = c.column_numbers.ensures.numbers in
    let up : AllPairs (λ i j. i < j) cs = subst (AllPairs (λ i j. i < j)) numbers c.column_numbers.ensures.ascending in
    let other : (c.args.n < length cs) × (get_or cs c.args.n 0 ≡ c.args.column) → ⊥ = λ e. false≢true (sym c.if-is_nth.false ∙ c.is_nth.ensures.1 (subst (λ xs. (c.args.n < length xs) × (get_or xs c.args.n 0 ≡ c.args.column)) (sym numbers) e)) in
    sym (ap values_of (in_column-none c.args.column es (entries_all (λ q. q ≢ c.args.column) es (not_nth cs c.args.column c.args.n up other c.requires))))
