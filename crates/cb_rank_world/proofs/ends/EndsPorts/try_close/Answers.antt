-- A close mark in the addressee's mailbox is one that this rank posts.
use Rattle.std.proofs.Common.{◌≡◌, false, sym, ◌∙◌}
use Rattle.cb_rank_world.specs.Ends.{EndsView, is_out}
use Rattle.cb_rank_world.proofs.Posts.{close_accepted, close_refused, close_succeeds}
use Rattle.cb_rank_world.proofs.ends.EndsPorts.try_close.Goals as goal

pub returns-clause-accepted : goal.returns-clause-accepted
returns-clause-accepted g c =
    let ends : EndsView _ = record { me = c.self.inside.me; boxes = c.self.inside.boxes.items } in
    let out : is_out ends c.args.to ≡ false = rw (← c.self.view_is) at (sym c.is_out.ensures ∙ c.if-is_out.false) in
    rw (← c.self.view_is) (close_accepted ends c.args.to c.index_mut.result.now c.close.new.self c.self.invariant out c.index_mut.ensures.value c.close.result c.close.ensures.accepted)

pub returns-clause-refused : goal.returns-clause-refused
returns-clause-refused g c =
    let ends : EndsView _ = record { me = c.self.inside.me; boxes = c.self.inside.boxes.items } in
    let out : is_out ends c.args.to ≡ false = rw (← c.self.view_is) at (sym c.is_out.ensures ∙ c.if-is_out.false) in
    rw (← c.self.view_is) (close_refused ends c.args.to c.index_mut.result.now c.close.new.self c.self.invariant out c.index_mut.ensures.value c.close.result c.close.ensures.refused c.close.ensures.unchanged)

pub returns-clause-succeeds : goal.returns-clause-succeeds
returns-clause-succeeds g c =
    let ends : EndsView _ = record { me = c.self.inside.me; boxes = c.self.inside.boxes.items } in
    let out : is_out ends c.args.to ≡ false = rw (← c.self.view_is) at (sym c.is_out.ensures ∙ c.if-is_out.false) in
    rw (← c.self.view_is) (close_succeeds ends c.args.to c.index_mut.result.now c.close.new.self c.self.invariant out c.index_mut.ensures.value c.close.result c.close.ensures.refused)
