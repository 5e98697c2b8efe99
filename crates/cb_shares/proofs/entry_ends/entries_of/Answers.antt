use Rattle.std.proofs.Common.{ℕ, ◌≤◌, get_or, sym, ap, ◌∙◌, arith}
use Rattle.cb_dcsc.specs.Columns.{in_column}
use Rattle.cb_shares.proofs.EntryRanges.{all_before, entries_before, entries_from}
use Rattle.cb_shares.proofs.entry_ends.entries_of.Goals as goal

pub returns-then-place-columns-clause-before : goal.returns-then-place-columns-clause-before
returns-then-place-columns-clause-before g c =
    let es = c.args.block.now.entries in
    let numbers = c.column_numbers-columns.ensures in
    let columns = c.column_numbers-columns.result.now in
    let place = c.first_from-place.result in
    let range = c.nth_range-start.ensures in
    entries_before es columns numbers.ascending numbers.all c.args.column place c.first_from-place.ensures.below c.nth_range-start.result.0 c.nth_range-start.result.1 c.shape-shape.ensures.matrix.ascending range.some range.within
    (range.entries ∙ ap (λ cs. in_column (get_or cs place 0) es) (sym numbers.numbers))

pub returns-then-place-columns-clause-after : goal.returns-then-place-columns-clause-after
returns-then-place-columns-clause-after g c =
    let es = c.args.block.now.entries in
    let numbers = c.column_numbers-columns.ensures in
    let columns = c.column_numbers-columns.result.now in
    let place = c.first_from-place.result in
    let range = c.nth_range-start.ensures in
    entries_from es columns numbers.ascending numbers.all c.args.column place c.first_from-place.ensures.below c.nth_range-start.result.0 c.nth_range-start.result.1 c.shape-shape.ensures.matrix.ascending range.some range.within
    (range.entries ∙ ap (λ cs. in_column (get_or cs place 0) es) (sym numbers.numbers))
    (c.first_from-place.ensures.from place (reflexive place) c.if-place-columns.true)
  where
    reflexive : (n : ℕ) → n ≤ n
    reflexive n = omega arith

pub returns-else-place-columns-clause-before : goal.returns-else-place-columns-clause-before
returns-else-place-columns-clause-before g c =
    let numbers = c.column_numbers-columns.ensures in
    all_before c.args.block.now.entries c.column_numbers-columns.result.now numbers.ascending numbers.all c.args.column c.first_from-place.result c.first_from-place.ensures.below c.len.result c.if-place-columns.false
