use Rattle.std.proofs.Common.{◌∙◌, arith}
use Rattle.std.proofs.lemmas.List.Elements.{All-get_or}
use Rattle.cb_semirings.specs.Arithmetic.{IsValue}
use Rattle.cb_dcsc.proofs.Lookup.{value_found, value_missed, as_long}
use Rattle.cb_dcsc.proofs.Block.get.Goals as goal

pub returns-in-Ok-clause-value : goal.returns-in-Ok-clause-value
returns-in-Ok-clause-value g c =
    value_found g.S.Semiring.arithmetic.zero c.args.self.now.entries _ _ c.args.row c.args.column c.in-Ok.n c.column.ensures.rows c.column.ensures.values c.column.ensures.ascending c.in-Ok.ensures.bound (c.in-Ok.ensures.ok 0)

pub returns-in-Ok-clause-is_value : goal.returns-in-Ok-clause-is_value
returns-in-Ok-clause-is_value g c =
    let s = g.S.Semiring.arithmetic in
    let same = as_long c.args.self.now.entries _ _ c.args.column c.column.ensures.rows c.column.ensures.values in
    let b = c.in-Ok.ensures.bound in
    All-get_or (IsValue s) _ c.in-Ok.n 0 (omega arith) c.column.ensures.are_values

pub returns-in-Err-clause-value : goal.returns-in-Err-clause-value
returns-in-Err-clause-value g c =
    c.zero.ensures ∙ value_missed g.S.Semiring.arithmetic.zero c.args.self.now.entries _ _ c.args.row c.args.column _ c.column.ensures.rows c.column.ensures.values c.column.ensures.ascending c.in-Err.ensures.position
