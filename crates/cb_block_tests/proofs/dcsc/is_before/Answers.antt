use Rattle.std.proofs.Common.{◌<◌, subst}
use Rattle.std.specs.Prelude.{All}
use Rattle.cb_dcsc.proofs.NumbersOfColumns.{entries_all}
use Rattle.cb_block_tests.proofs.dcsc.is_before.Goals as goal

pub returns : goal.returns
returns c t =
    entries_all (λ j. j < c.args.column) c.args.block.now.entries (subst (All (λ j. j < c.args.column)) c.column_numbers.ensures.numbers (c.are_below.ensures.0 t))
