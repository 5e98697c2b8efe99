use Rattle.std.proofs.Common.{Some, sym, ◌∙◌, ap, arith}
use Rattle.cb_plan.specs.declared.acts.Half.TheVariants as half_is
use Rattle.cb_rank.specs.Ranks.{RankView}
use Rattle.cb_rank.proofs.NextAct.{finds}
use Rattle.cb_rank.proofs.RankAfterHalf.{posts_on, filled_slot, bool_few, hands_of}
use Rattle.cb_rank.proofs.ranks.Rank.outgoing.Goals as goal

pub copy_of-body-requires-clause-inside : goal.copy_of-body-requires-clause-inside
copy_of-body-requires-clause-inside g c =
    (finds c.args.self.now (half_is.Post c.in-Some-Post.field-0-0 c.in-Some-Post.tag c.in-Some-Post.slot) c.next.ensures.rank (sym c.next.ensures.value ∙ c.in-Some-Post.is ∙ ap Some c.in-Some-Post.field-0-is)).2

pub copy_of-body-requires-clause-filled : goal.copy_of-body-requires-clause-filled
copy_of-body-requires-clause-filled g c =
    let next = rw (← c.self.view_is) at (sym c.next.ensures.value ∙ c.in-Some-Post.is ∙ ap Some c.in-Some-Post.field-0-is) in
    filled_slot _ _ (finds _ (half_is.Post c.in-Some-Post.field-0-0 c.in-Some-Post.tag c.in-Some-Post.slot) c.self.invariant next).3 (c.self.invariant.shapes c.in-Some-Post.slot)

pub invariant_of-self : goal.invariant_of-self
invariant_of-self g c =
    let next = rw (← c.self.view_is) at (sym c.next.ensures.value ∙ c.in-Some-Post.is ∙ ap Some c.in-Some-Post.field-0-is) in
    let few = bool_few c.copy_of-body.result.1 in
    let count = c.from.ensures in
    rw c.copy_of-body.ensures.kept (posts_on _ c.in-Some-Post.field-0-0 c.in-Some-Post.tag c.in-Some-Post.slot _ c.self.invariant next (omega arith))

pub returns-clause-half : goal.returns-clause-half
returns-clause-half g c =
    let next = rw (← c.self.view_is) at (sym c.next.ensures.value ∙ c.in-Some-Post.is ∙ ap Some c.in-Some-Post.field-0-is) in
    let x : RankView = record { plan = c.self.inside.plan.value; me = c.self.inside.me; program = c.self.inside.program.items; done = c.self.inside.done; slots = c.self.inside.store; refusals = c.self.inside.refusals } in
    rw (← c.self.view_is, c.from.ensures, c.copy_of-body.ensures.kept) (hands_of x c.in-Some-Post.field-0-0 c.in-Some-Post.tag c.in-Some-Post.slot c.copy_of-body.result.0 c.copy_of-body.result.1 next c.copy_of-body.ensures.copy)
