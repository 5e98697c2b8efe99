use Rattle.std.proofs.Common.{[], ◌∷◌, rules}
use Rattle.cb_job_inputs.specs.Inputs.{AreMatrices}
use Rattle.cb_job_computations.proofs.computed_answers.computed_answer.Goals as goal

pub returns-in-Three : goal.returns-in-Three
returns-in-Three g c =
    let are : AreMatrices g.S.Semiring.arithmetic c.args.texts.items (c.in-Three.a ∷ c.in-Three.b ∷ c.in-Three.c ∷ []) = search rules in
    c.computed-in-Three.ensures c.args.texts.items are
