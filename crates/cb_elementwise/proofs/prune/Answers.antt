use Rattle.std.proofs.Common.{◌≡◌, ◌∙◌}
use Rattle.std.proofs.lemmas.Result.{IfOk-weaker}
use Rattle.cb_matrix.specs.Passing.{passes}
use Rattle.cb_matrix.specs.Operations.{pruned}
use Rattle.cb_elementwise.specs.RuleLaws.{unless_passes}
use Rattle.cb_operations.specs.SelectionAnswers.{replaced}
use Rattle.cb_elementwise.proofs.PrunedValues.{pruned_is}
use Rattle.cb_elementwise.proofs.prune.Goals as goal

pub returns : goal.returns
returns g c =
    let s = g.S.Semiring.arithmetic in
    let a = c.args.block.now in
    let test = c.args.test in
    IfOk-weaker c.replaced.result (λ m. m ≡ replaced s (λ i j x. unless_passes s.zero test x) a) (λ m. m ≡ pruned s (passes test) a) (λ m is. is ∙ pruned_is s test a) c.replaced.ensures
