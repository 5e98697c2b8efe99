use Rattle.std.proofs.Common.{◌≡◌, ◌∙◌}
use Rattle.std.proofs.lemmas.Result.{IfOk-weaker}
use Rattle.cb_operations.specs.Regions.{is_in, where_true}
use Rattle.cb_operations.specs.SelectionAnswers.{replaced}
use Rattle.cb_operations.specs.SelectionAnswers.{selected}
use Rattle.cb_selections.proofs.RegionValues.{selected_is}
use Rattle.cb_selections.proofs.select.Goals as goal

pub returns-then-not-is_one_range : goal.returns-then-not-is_one_range
returns-then-not-is_one_range g c =
    let s = g.S.Semiring.arithmetic in
    let a = c.args.block.now in
    let region = c.args.region in
    IfOk-weaker c.replaced.result (λ m. m ≡ replaced s (λ i j x. where_true s.zero (is_in region i j) x) a) (λ m. m ≡ selected s region a) (λ m is. is ∙ selected_is s region a) c.replaced.ensures
