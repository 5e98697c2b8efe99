use Rattle.std.proofs.Common.{sym}
use Rattle.std.proofs.lemmas.Bool.{eqb-true}
use Rattle.std.proofs.lemmas.List.{nil_from_length}
use Rattle.cb_shares.proofs.PanelColumns.{one_panel}
use Rattle.cb_shares.proofs.columns.only_panel.Goals as goal

pub returns-then-is_empty : goal.returns-then-is_empty
returns-then-is_empty g c =
    one_panel c.args.matrix.now c.panels.result.0.now c.panels.result.1.now c.panels.ensures.panels c.panels.ensures.shapes (nil_from_length c.panels.result.1.now (eqb-true _ _ (sym c.if-is_empty.ensures)))
