use Rattle.std.proofs.Common.{◌≡◌, ◌∙◌, ap}
use Rattle.std.specs.Prelude.{None}
use Rattle.std.proofs.lemmas.Result.{IfOk-weaker}
use Rattle.cb_matrix.specs.Values.{empty_matrix}
use Rattle.cb_selections.specs.Updates.{updated}
use Rattle.cb_selections.proofs.UpdatedPlaces.{all_dropped, all_left, all_new}
use Rattle.cb_selections.proofs.updates.update_all.Goals as goal

pub returns-then-how-2 : goal.returns-then-how-2
returns-then-how-2 g c =
    all_dropped g.S.Semiring.arithmetic g.met.S.Semiring.is_semiring c.args.how c.args.old.now c.args.new.now c.shape-2.ensures.matrix c.shape.ensures.matrix c.requires
    c.empty.result c.empty.ensures.matrix (c.empty.ensures.value ∙ ap empty_matrix c.shape-then-how-2.ensures.shape) c.if-how.true c.if-how-2.true

pub returns-else-how-2 : goal.returns-else-how-2
returns-else-how-2 g c =
    let s = g.S.Semiring.arithmetic in
    let same = all_left s g.met.S.Semiring.is_semiring c.args.how c.args.old.now c.args.new.now c.shape-2.ensures.matrix c.shape.ensures.matrix c.requires c.if-how.true c.if-how-2.false in
    IfOk-weaker c.try_clone.result (λ m. m ≡ c.args.old.now) (λ m. m ≡ updated s c.args.how None c.args.old.now c.args.new.now) (λ m is. is ∙ same) c.try_clone.ensures

pub returns-else-how-3 : goal.returns-else-how-3
returns-else-how-3 g c =
    let s = g.S.Semiring.arithmetic in
    let same = all_new s g.met.S.Semiring.is_semiring c.args.how c.args.old.now c.args.new.now c.shape-2.ensures.matrix c.shape.ensures.matrix c.requires c.if-how.false c.if-how-3.false in
    IfOk-weaker c.try_clone-else-how-3.result (λ m. m ≡ c.args.new.now) (λ m. m ≡ updated s c.args.how None c.args.old.now c.args.new.now) (λ m is. is ∙ same)
    c.try_clone-else-how-3.ensures
