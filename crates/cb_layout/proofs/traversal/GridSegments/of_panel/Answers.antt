use Rattle.std.proofs.Common.{◌≡◌, ◌∙◌}
use Rattle.cb_layout.proofs.PanelWalks.{only_panel, panel_is_block, panel_glued}
use Rattle.cb_layout.proofs.traversal.GridSegments.of_panel.Goals as goal

pub new-requires : goal.new-requires
new-requires g c =
    let b = c.index-panel-0.result in
    let side : c.single.result.side ≡ 1 = λ t. (c.single.ensures t).side in
    let only = only_panel c.args.panel.now b c.requires c.index-panel-0.is in
    panel_is_block g.S.Semiring.arithmetic c.single.result.side c.shape-shape.result c.args.panel.now b side c.shape-shape.ensures.shape c.shape-shape.ensures.matrix only

pub returns : goal.returns
returns g c =
    let b = c.index-panel-0.result in
    let side : c.single.result.side ≡ 1 = λ t. (c.single.ensures t).side in
    let only = only_panel c.args.panel.now b c.requires c.index-panel-0.is in
    c.new.ensures ∙ panel_glued g.S.Semiring.arithmetic c.single.result.side c.shape-shape.result c.args.panel.now b side c.shape-shape.ensures.shape c.shape-shape.ensures.matrix only g.met.S.Semiring.is_semiring
