use Rattle.std.proofs.Common.{arith, ◌∙◌, refl, sym, ◌≡◌, ◌≢◌, ◌+◌, ◌++◌, length, subst}
use Rattle.cb_market_lines.specs.Lines.{lines}
use Rattle.cb_market_lines.specs.Checks.{given_by}
use Rattle.cb_market_lines.specs.Faults.{IsNextEntry}
use Rattle.cb_market_lines.proofs.NextEntries.{next_extra, next_refused, next_memory, next_passed, next_inside, next_value, at_ok}
use Rattle.cb_market.proofs.PartedTexts.{reading_none, reading_more, reading_all}
use Rattle.cb_market.proofs.Beginnings.{prefix_self, longer_prefix, prefix_of_prefix, at_err}
use Rattle.cb_market.proofs.entries.remaining_entries.Goals as goal

pub returns-then-left-eq0-clause-fault : goal.returns-then-left-eq0-clause-fault
returns-then-left-eq0-clause-fault g c =
    next_extra g.S.Semiring.arithmetic c.args.header c.args.size.shape (c.args.scanner.now.line + length (lines c.args.scanner.now.rest.now)) c.loop-line.left c.loop-line.scanner.line c.loop-line.scanner.rest.now c.in-Some.line c.next_entry.new.self.rest.now _ c.in-Some.found c.loop-line.invariant.faults c.if-left-eq0.true c.in-Some.ensures.some

pub returns-in-Err-clause-fault : goal.returns-in-Err-clause-fault
returns-in-Err-clause-fault g c =
    let s = g.S.Semiring.arithmetic in
    let some : c.loop-line.left ≢ 0 = c.if-left-eq0.false in
    let next = subst (λ r. IsNextEntry s c.args.header c.args.size.shape c.loop-line.scanner.line c.loop-line.scanner.rest.now c.in-Some.line r c.next_entry.new.self.rest.now) c.in-Err.is c.in-Some.ensures.some in
    next_refused s c.args.header c.args.size.shape (c.args.scanner.now.line + length (lines c.args.scanner.now.rest.now)) c.loop-line.left c.loop-line.scanner.line c.loop-line.scanner.rest.now c.in-Some.line c.next_entry.new.self.rest.now _ c.in-Err.kind c.loop-line.invariant.faults some (omega (arith, c.in-Some.ensures.some.count, c.loop-line.invariant.count)) next

pub returns-then-is_err-clause-fault : goal.returns-then-is_err-clause-fault
returns-then-is_err-clause-fault g c =
    let s = g.S.Semiring.arithmetic in
    let some : c.loop-line.left ≢ 0 = c.if-left-eq0.false in
    let next = subst (λ r. IsNextEntry s c.args.header c.args.size.shape c.loop-line.scanner.line c.loop-line.scanner.rest.now c.in-Some.line r c.next_entry.new.self.rest.now) c.in-Ok.is c.in-Some.ensures.some in
    next_memory s c.args.header c.args.size.shape (c.args.scanner.now.line + length (lines c.args.scanner.now.rest.now)) c.loop-line.left c.loop-line.scanner.line c.loop-line.scanner.rest.now c.in-Some.line c.next_entry.new.self.rest.now _ c.in-Ok.entry c.loop-line.invariant.faults some (omega (arith, c.in-Some.ensures.some.count, c.loop-line.invariant.count)) next

pub loop-line-preserved : goal.loop-line-preserved
loop-line-preserved g c =
    let s = g.S.Semiring.arithmetic in
    let some : c.loop-line.left ≢ 0 = c.if-left-eq0.false in
    let next = subst (λ r. IsNextEntry s c.args.header c.args.size.shape c.loop-line.scanner.line c.loop-line.scanner.rest.now c.in-Some.line r c.next_entry.new.self.rest.now) c.in-Ok.is c.in-Some.ensures.some in
    let line : c.next_entry.new.self.line ≡ c.in-Some.line + 1 = c.in-Some.ensures.line in
    let added = at_ok c.give.result (c.give.new.entries.entries ≡ c.loop-line.entries.entries ++ given_by s c.args.header.symmetry c.in-Ok.entry) (sym c.is_err.ensures.value ∙ c.if-is_err.false) c.give.ensures.given in
    record {
      faults = next_passed s c.args.header c.args.size.shape (c.args.scanner.now.line + length (lines c.args.scanner.now.rest.now)) c.loop-line.left c.loop-line.scanner.line c.loop-line.scanner.rest.now c.in-Some.line c.next_entry.new.self.rest.now _ c.in-Ok.entry c.next_entry.new.self.line line c.loop-line.invariant.faults some next;
      reading = reading_more s c.args.header c.args.size.shape _ c.loop-line.scanner.line c.next_entry.new.self.line c.in-Some.line c.loop-line.scanner.rest.now c.next_entry.new.self.rest.now c.args.size.count c.loop-line.left _ c.loop-line.entries.entries c.give.new.entries.entries c.in-Ok.entry line some c.loop-line.invariant.reading next added;
      count = omega (arith, line, c.in-Some.ensures.some.count, c.loop-line.invariant.count);
      later = omega (arith, line, c.in-Some.ensures.some.later, c.loop-line.invariant.later);
      first = longer_prefix _ _ _ _ c.loop-line.invariant.first added;
      side = c.give.ensures.side ∙ c.loop-line.invariant.side;
      shape = c.give.ensures.shape ∙ c.loop-line.invariant.shape;
      room = omega (arith, line, c.in-Some.ensures.some.count, c.loop-line.invariant.room);
    }

pub give-requires-clause-inside : goal.give-requires-clause-inside
give-requires-clause-inside g c =
    let s = g.S.Semiring.arithmetic in
    let next = subst (λ r. IsNextEntry s c.args.header c.args.size.shape c.loop-line.scanner.line c.loop-line.scanner.rest.now c.in-Some.line r c.next_entry.new.self.rest.now) c.in-Ok.is c.in-Some.ensures.some in
    rw c.loop-line.invariant.shape (next_inside s c.args.header c.args.size.shape c.loop-line.scanner.line c.loop-line.scanner.rest.now c.in-Some.line c.next_entry.new.self.rest.now c.in-Ok.entry next)

pub give-requires-clause-value : goal.give-requires-clause-value
give-requires-clause-value g c =
    let s = g.S.Semiring.arithmetic in
    let next = subst (λ r. IsNextEntry s c.args.header c.args.size.shape c.loop-line.scanner.line c.loop-line.scanner.rest.now c.in-Some.line r c.next_entry.new.self.rest.now) c.in-Ok.is c.in-Some.ensures.some in
    next_value s g.met.S.Semiring.reads_numbers c.args.header c.args.size.shape c.loop-line.scanner.line c.loop-line.scanner.rest.now c.in-Some.line c.next_entry.new.self.rest.now c.in-Ok.entry next

pub give-requires-clause-shape : goal.give-requires-clause-shape
give-requires-clause-shape g c = rw c.loop-line.invariant.shape c.requires.shape

pub loop-line-init : goal.loop-line-init
loop-line-init g c = record { faults = refl; reading = reading_none g.S.Semiring.arithmetic c.args.header c.args.size.shape _ _ _; count = refl; later = omega arith; first = prefix_self _; side = refl; shape = c.requires.same_shape; room = c.requires.lines }

pub next_entry-requires : goal.next_entry-requires
next_entry-requires g c = c.loop-line.invariant.room

pub overflow_sub-left : goal.overflow_sub-left
overflow_sub-left g c = let some = c.if-left-eq0.false in omega arith

pub loop-line-smaller : goal.loop-line-smaller
loop-line-smaller g c = c.in-Some.ensures.some.shorter

pub returns-then-left-eq0-clause-side : goal.returns-then-left-eq0-clause-side
returns-then-left-eq0-clause-side g c = c.loop-line.invariant.side

pub returns-then-left-eq0-clause-shape : goal.returns-then-left-eq0-clause-shape
returns-then-left-eq0-clause-shape g c = c.loop-line.invariant.shape

pub returns-then-left-eq0-clause-place : goal.returns-then-left-eq0-clause-place
returns-then-left-eq0-clause-place g c = (omega (arith, c.in-Some.ensures.some.later, c.loop-line.invariant.later), omega (arith, c.in-Some.ensures.some.count, c.loop-line.invariant.count))

pub returns-in-Err-clause-side : goal.returns-in-Err-clause-side
returns-in-Err-clause-side g c = c.loop-line.invariant.side

pub returns-in-Err-clause-shape : goal.returns-in-Err-clause-shape
returns-in-Err-clause-shape g c = c.loop-line.invariant.shape

pub returns-in-Err-clause-place : goal.returns-in-Err-clause-place
returns-in-Err-clause-place g c = (omega (arith, c.in-Some.ensures.some.later, c.loop-line.invariant.later), omega (arith, c.in-Some.ensures.some.count, c.loop-line.invariant.count))

pub returns-then-is_err-clause-side : goal.returns-then-is_err-clause-side
returns-then-is_err-clause-side g c = c.give.ensures.side ∙ c.loop-line.invariant.side

pub returns-then-is_err-clause-shape : goal.returns-then-is_err-clause-shape
returns-then-is_err-clause-shape g c = c.give.ensures.shape ∙ c.loop-line.invariant.shape

pub returns-then-is_err-clause-place : goal.returns-then-is_err-clause-place
returns-then-is_err-clause-place g c = (omega (arith, c.in-Some.ensures.some.later, c.loop-line.invariant.later), omega (arith, c.in-Some.ensures.some.count, c.loop-line.invariant.count))

pub returns-clause-side : goal.returns-clause-side
returns-clause-side g c = c.loop-line.invariant.side

pub returns-clause-shape : goal.returns-clause-shape
returns-clause-shape g c = c.loop-line.invariant.shape

pub returns-clause-line : goal.returns-clause-line
returns-clause-line g c = c.in_default.ensures.end ∙ c.loop-line.invariant.count

pub returns-clause-faultless : goal.returns-clause-faultless
returns-clause-faultless g c =
    (reading_all g.S.Semiring.arithmetic c.args.header c.args.size.shape c.args.scanner.now.rest.now c.args.scanner.now.line c.loop-line.scanner.line c.loop-line.scanner.rest.now c.args.size.count c.loop-line.left _ c.loop-line.entries.entries c.loop-line.invariant.reading c.in_default.ensures.none).faultless

pub returns-clause-missing : goal.returns-clause-missing
returns-clause-missing g c =
    (reading_all g.S.Semiring.arithmetic c.args.header c.args.size.shape c.args.scanner.now.rest.now c.args.scanner.now.line c.loop-line.scanner.line c.loop-line.scanner.rest.now c.args.size.count c.loop-line.left _ c.loop-line.entries.entries c.loop-line.invariant.reading c.in_default.ensures.none).counted

pub returns-clause-given : goal.returns-clause-given
returns-clause-given g c =
    (reading_all g.S.Semiring.arithmetic c.args.header c.args.size.shape c.args.scanner.now.rest.now c.args.scanner.now.line c.loop-line.scanner.line c.loop-line.scanner.rest.now c.args.size.count c.loop-line.left _ c.loop-line.entries.entries c.loop-line.invariant.reading c.in_default.ensures.none).gives

pub returns-then-left-eq0-clause-err : goal.returns-then-left-eq0-clause-err
returns-then-left-eq0-clause-err g c = c.loop-line.invariant.first

pub returns-in-Err-clause-err : goal.returns-in-Err-clause-err
returns-in-Err-clause-err g c = c.loop-line.invariant.first

pub returns-then-is_err-clause-err : goal.returns-then-is_err-clause-err
returns-then-is_err-clause-err g c =
    prefix_of_prefix _ _ _ c.loop-line.invariant.first (at_err c.give.result _ (sym c.is_err.ensures.value ∙ c.if-is_err.true) c.give.ensures.err)
