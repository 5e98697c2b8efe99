use Rattle.std.proofs.Common.{rules, arith, subst, [], ◌∷◌}
use Rattle.cb_market_lines.specs.declared.header.Field.TheVariants.{Integer, Pattern}
use Rattle.cb_market_lines.specs.Faults.{IsEntryOf}
use Rattle.cb_market_lines.proofs.NumberLines.{line_fewer, line_next, place_found, plain_found, field_header}
use Rattle.cb_market_lines.proofs.scanner.Scanner.plain_entry.Goals as goal

pub overflow_add-self : goal.overflow_add-self
overflow_add-self g c =
    let more = line_fewer c.args.self.now.rest.now _ c.in-Some.line.rest.now c.in-Some.ensures.line in
    search (rules, more)

pub overflow_add-self-in-Integer : goal.overflow_add-self-in-Integer
overflow_add-self-in-Integer g c =
    let more = line_fewer c.args.self.now.rest.now _ c.in-Some-plain_line.line.rest.now c.in-Some-plain_line.ensures.line in
    search (rules, more)

pub returns-in-Some-clause-some : goal.returns-in-Some-clause-some
returns-in-Some-clause-some g c =
    let s = g.S.Semiring.arithmetic in
    let plain = c.in-Some.ensures in
    let ws = plain.row_word ∷ plain.column_word ∷ [] in
    let text = c.args.self.now.rest.now in
    let rest = c.in-Some.line.rest.now in
    let result = c.place_entry-found.result in
    let found = place_found s c.args.header.symmetry c.args.shape text c.in-Some.line.row c.in-Some.line.column rest plain result c.place_entry-found.ensures.ok c.place_entry-found.ensures.fault in
    line_next s c.args.header c.args.shape c.args.self.now.line text plain.row_word (plain.column_word ∷ []) rest result plain.line plain.row_is.0 (subst (λ h. IsEntryOf s h c.args.shape ws result) (field_header c.args.header Pattern c.in-Pattern.is) found)

pub returns-in-Some-plain_line-clause-some : goal.returns-in-Some-plain_line-clause-some
returns-in-Some-plain_line-clause-some g c =
    let s = g.S.Semiring.arithmetic in
    let line = c.in-Some-plain_line.line in
    let plain = c.in-Some-plain_line.ensures in
    let ws = plain.row_word ∷ plain.column_word ∷ plain.value_word ∷ [] in
    let text = c.args.self.now.rest.now in
    let result = c.numbers_entry-found.result in
    let found = plain_found s c.args.header.symmetry c.args.shape text line.row line.column line.value line.rest.now plain result (search arith) c.numbers_entry-found.ensures.ok c.numbers_entry-found.ensures.fault in
    line_next s c.args.header c.args.shape c.args.self.now.line text plain.row_word (plain.column_word ∷ plain.value_word ∷ []) line.rest.now result plain.line plain.row_is.0 (subst (λ h. IsEntryOf s h c.args.shape ws result) (field_header c.args.header Integer c.in-Integer.is) found)
