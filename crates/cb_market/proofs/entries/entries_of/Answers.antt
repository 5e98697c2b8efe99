use Rattle.std.proofs.Common.{[], ◌+◌, ◌++◌, length, refl, ap, ◌∙◌}
use Rattle.cb_market_lines.specs.Lines.{lines}
use Rattle.cb_market_lines.proofs.LineFaults.{missing, complete, at_end}
use Rattle.cb_market.proofs.PartedTexts.{fault_left, given_kept}
use Rattle.cb_market.proofs.entries.entries_of.Goals as goal

pub returns-then-missing-ne0-clause-fault : goal.returns-then-missing-ne0-clause-fault
returns-then-missing-ne0-clause-fault g c =
    let s = g.S.Semiring.arithmetic in
    let e = c.in_ok-missing.ensures in
    let last = c.args.scanner.now.line + length (lines c.args.scanner.now.rest.now) in
    let left = fault_left s c.args.header c.args.size.shape last c.args.scanner.now.line c.args.size.count c.in_ok-missing.missing c.args.scanner.now.rest.now e.faultless e.missing in
    missing s c.args.header c.args.size.shape last c.in_ok-missing.missing [] _ _ left c.if-missing-ne0.true refl (c.fault.ensures ∙ at_end e.line)

pub returns-clause-none : goal.returns-clause-none
returns-clause-none g c =
    let s = g.S.Semiring.arithmetic in
    let e = c.in_ok-missing.ensures in
    let last = c.args.scanner.now.line + length (lines c.args.scanner.now.rest.now) in
    let left = fault_left s c.args.header c.args.size.shape last c.args.scanner.now.line c.args.size.count c.in_ok-missing.missing c.args.scanner.now.rest.now e.faultless e.missing in
    complete s c.args.header c.args.size.shape last c.in_ok-missing.missing [] _ left c.if-missing-ne0.false refl

pub returns-clause-given : goal.returns-clause-given
returns-clause-given g c =
    let e = c.in_ok-missing.ensures in
    e.given ∙ ap (λ es. c.args.entries.now.entries ++ es) (given_kept g.S.Semiring.arithmetic c.args.header c.args.scanner.now.line c.args.scanner.now.rest.now)
