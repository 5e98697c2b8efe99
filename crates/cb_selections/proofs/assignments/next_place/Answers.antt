use Rattle.std.proofs.Common.{sym, ◌∙◌}
use Rattle.std.proofs.lemmas.Bool.{false≢true}
use Rattle.cb_selections.proofs.AssignedPart.{first_past, first_missed}
use Rattle.cb_selections.proofs.assignments.next_place.Goals as goal

pub returns-then-is_nth : goal.returns-then-is_nth
returns-then-is_nth c =
    let found = c.is_nth.ensures.0 c.if-is_nth.true in
    first_past c.args.columns.now c.args.column c.args.n c.requires.ascending found.0 found.1 c.requires.first

pub returns-else-is_nth : goal.returns-else-is_nth
returns-else-is_nth c =
    first_missed c.args.columns.now c.args.column c.args.n c.requires.ascending (λ e. false≢true (sym c.if-is_nth.false ∙ c.is_nth.ensures.1 e)) c.requires.first
