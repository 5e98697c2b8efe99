use Rattle.std.proofs.Common.{◌≡◌, None, ◌∙◌}
use Rattle.std.proofs.lemmas.Result.{IfOk-weaker}
use Rattle.cb_selections.specs.Extracted.{extracted_by}
use Rattle.cb_selections.proofs.ExtractedColumns.{whole_is}
use Rattle.cb_selections.proofs.extracts.copy.Goals as goal

pub returns : goal.returns
returns g c =
    let s = g.S.Semiring.arithmetic in
    let a = c.args.block.now in
    IfOk-weaker c.try_clone.result (λ m. m ≡ a) (λ m. m ≡ extracted_by s None None a)
    (λ m is. is ∙ whole_is s a g.met.S.Semiring.is_semiring c.shape.ensures.matrix) c.try_clone.ensures
