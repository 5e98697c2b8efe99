use Rattle.std.proofs.Common.{rules}
use Rattle.cb_operations.specs.Operands.{lent_in}
use Rattle.cb_shares.proofs.AnswerMatrices.{answer_matrix}
use Rattle.cb_panels.proofs.computations.compute.Goals as goal

pub computed-requires : goal.computed-requires
computed-requires g c =
    let s = g.S.Semiring.arithmetic in
    let laws = (g.met.S.Semiring g.world.𝓛 g.world.𝓜 g.world.𝓡 ((λ s x. x), (λ x. x), (λ x. x), λ x. x)).is_semiring in
    let suits = c.in_ok-check.ensures.ok in
    let matrix = answer_matrix s laws c.args.computation (lent_in c.args.operands.now) suits c.in_ok-check.ensures.matrices in
    (search rules, (search rules, (search rules, record { count = c.requires; suits = suits; matrix = matrix })))
