use Rattle.std.proofs.Common.{◌∙◌, sym, refl}
use Rattle.cb_dcsc.specs.Columns.{columns_with_entries}
use Rattle.cb_masked.proofs.SomeColumns.{all_places}
use Rattle.cb_shares.proofs.columns.block_columns.Goals as goal

pub returns-then-high-columns : goal.returns-then-high-columns
returns-then-high-columns g c =
    let m = c.args.block.now in
    let at = c.places_between-low.result in
    sym (all_places m at.0 at.1 (columns_with_entries m.entries) refl c.if-low-eq0.true (c.if-high-columns.true ∙ c.columns.ensures)) ∙ c.places_between-low.ensures.columns
