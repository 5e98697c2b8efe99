use Rattle.std.proofs.Common.{sym, ◌∙◌}
use Rattle.cb_dcsc.proofs.Held.{same_number, not_found}
use Rattle.cb_dcsc.proofs.Lookup.{row_value-found, row_value-absent}
use Rattle.cb_selections.proofs.diagonals.value_at.Goals as goal

pub returns-in-Ok : goal.returns-in-Ok
returns-in-Ok g c = sym (row_value-found g.S.Semiring.arithmetic.zero c.args.rows.now c.args.values.now c.in-Ok.n c.args.row c.requires.lengths c.requires.order c.in-Ok.ensures.bound (same_number _ _ (c.in-Ok.ensures.ok 0)))

pub returns-in-Err : goal.returns-in-Err
returns-in-Err g c = c.zero.ensures ∙ sym (row_value-absent g.S.Semiring.arithmetic.zero c.args.rows.now c.args.values.now c.args.row (not_found c.args.rows.now c.args.row c.in-Err.field-0 c.requires.order c.in-Err.ensures.position))
