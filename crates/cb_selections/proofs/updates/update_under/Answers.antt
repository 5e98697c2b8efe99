use Rattle.std.proofs.Common.{◌≡◌, ◌∙◌, refl}
use Rattle.std.specs.Prelude.{Some, not}
use Rattle.std.proofs.lemmas.Result.{IfOk-weaker}
use Rattle.cb_matrix.specs.Operations.{sum_of}
use Rattle.cb_selections.specs.Updates.{updated, allowed}
use Rattle.cb_selections.proofs.UpdatedPlaces.{written_on_old, written_on_allowed, written_beside_old}
use Rattle.cb_selections.proofs.updates.update_under.Goals as goal

pub returns-then-how-2 : goal.returns-then-how-2
returns-then-how-2 g c =
    let s = g.S.Semiring.arithmetic in
    let how = c.args.how in
    let old = c.args.old.now in
    let m = c.args.mask.now in
    let w = c.in_ok-written.written in
    let same = written_on_allowed s g.met.S.Semiring.is_semiring how old c.args.new.now c.shape-2.ensures.matrix c.shape.ensures.matrix c.requires.shape m w c.in_ok-written.ensures c.if-how.true c.if-how-2.true in
    IfOk-weaker c.add_allowed.result (λ x. x ≡ sum_of s (allowed s how.complement m old) w) (λ x. x ≡ updated s how (Some m) old c.args.new.now) (λ x is. is ∙ same) c.add_allowed.ensures

pub returns-then-how : goal.returns-then-how
returns-then-how g c =
    let s = g.S.Semiring.arithmetic in
    let how = c.args.how in
    let old = c.args.old.now in
    let m = c.args.mask.now in
    let w = c.in_ok-written.written in
    let same = written_on_old s g.met.S.Semiring.is_semiring how old c.args.new.now c.shape-2.ensures.matrix c.shape.ensures.matrix c.requires.shape m w c.in_ok-written.ensures c.if-how.true c.if-how-2.false in
    IfOk-weaker c.add.result (λ x. x ≡ sum_of s old w) (λ x. x ≡ updated s how (Some m) old c.args.new.now) (λ x is. is ∙ same) c.add.ensures

pub returns : goal.returns
returns g c =
    let s = g.S.Semiring.arithmetic in
    let how = c.args.how in
    let old = c.args.old.now in
    let m = c.args.mask.now in
    let w = c.in_ok-written.written in
    let same = written_beside_old s g.met.S.Semiring.is_semiring how old c.args.new.now c.shape-2.ensures.matrix c.shape.ensures.matrix c.requires.shape m w c.in_ok-written.ensures (not how.complement) refl c.if-how.false c.if-how-3.false in
    IfOk-weaker c.add_allowed-else-how-3.result (λ x. x ≡ sum_of s (allowed s (not how.complement) m old) w) (λ x. x ≡ updated s how (Some m) old c.args.new.now) (λ x is. is ∙ same)
    c.add_allowed-else-how-3.ensures
