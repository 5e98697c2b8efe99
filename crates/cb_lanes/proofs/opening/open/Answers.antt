use Rattle.std.proofs.Common.{arith, ◌≡◌, ◌∙◌, sym, length, slice_index_or}
use Rattle.std.proofs.lemmas.List.{get_or_read}
use Rattle.std.proofs.lemmas.Grind.{common_steps}
use Rattle.std.specs.declared.vec.Vec.{Vec}
use Rattle.cb_lanes.proofs.NewDesks.{are_of_one_opening, new_desk, HaveLanes-step}
use Rattle.cb_lanes.proofs.opening.open.Goals as goal

pub invariant_of-push : goal.invariant_of-push
invariant_of-push g c =
    let inv = c.loop-me.invariant in
    let made = c.in_ok-rows.ensures in
    let r = c.replace-outgoing.result in
    let d = c.replace-incoming.result in
    let row : r ≡ slice_index_or c.in_ok-rows.rows.items c.loop-me.me r =
    c.replace-outgoing.ensures.value ∙ get_or_read c.loop-me.rows.items c.loop-me.me c.index_mut.result.now (omega arith) c.index_mut.ensures.value r ∙ inv.rows c.loop-me.me r (omega arith) in
    let column : d ≡ slice_index_or c.in_ok-rows.columns.items c.loop-me.me d =
    c.replace-incoming.ensures.value ∙ get_or_read c.loop-me.columns.items c.loop-me.me c.index_mut-in-loop-me.result.now (omega arith) c.index_mut-in-loop-me.ensures.value d ∙ inv.columns c.loop-me.me d (omega arith) in
    let wide : length r.items ≡ c.args.ranks = rw row (made.rows c.loop-me.me r (omega arith)) in
    let high : length d.items ≡ c.args.ranks = rw column (made.columns c.loop-me.me d (omega arith)) in
    record {
      ranks = (omega arith, omega arith);
      others = (λ k below. rw row ((made.lanes c.loop-me.me k r d (omega arith) (omega arith)).0));
      senders = (λ k below. rw column ((made.lanes k c.loop-me.me r d (omega arith) (omega arith)).1));
    }

pub loop-me-preserved : goal.loop-me-preserved
loop-me-preserved g c =
    let inv = c.loop-me.invariant in
    let made = c.in_ok-rows.ensures in
    let row = λ (r : Vec _ _). c.replace-outgoing.ensures.value ∙ get_or_read c.loop-me.rows.items c.loop-me.me c.index_mut.result.now (omega arith) c.index_mut.ensures.value r ∙ inv.rows c.loop-me.me r (omega arith) in
    let column = λ (d : Vec _ _). c.replace-incoming.ensures.value ∙ get_or_read c.loop-me.columns.items c.loop-me.me c.index_mut-in-loop-me.result.now (omega arith) c.index_mut-in-loop-me.ensures.value d ∙ inv.columns c.loop-me.me d (omega arith) in
    record {
      desk_count = grind (arith, common_steps);
      row_count = grind (arith, common_steps);
      column_count = grind (arith, common_steps);
      rows = (λ i r past. grind (arith, common_steps, inv.rows i r));
      columns = (λ j d past. grind (arith, common_steps, inv.columns j d));
      made = rw c.in_ok-push.ensures.items (HaveLanes-step c.loop-me.desks.items _ c.in_ok-rows.rows.items c.in_ok-rows.columns.items (sym inv.desk_count) (rw inv.desk_count row) (rw inv.desk_count column) inv.made);
    }

pub returns-clause-one_opening : goal.returns-clause-one_opening
returns-clause-one_opening g c =
    let inv = c.loop-me.invariant in
    let made = c.in_ok-rows.ensures in
    let all : length c.loop-me.desks.items ≡ c.args.ranks = omega arith in
    are_of_one_opening c.args.capacity c.in_ok-rows.rows.items c.in_ok-rows.columns.items c.loop-me.desks.items (omega arith) (omega arith) (rw all made.rows) (rw all made.columns) made.lanes inv.made

pub returns-clause-new : goal.returns-clause-new
returns-clause-new g c k a below =
    let inv = c.loop-me.invariant in
    let made = c.in_ok-rows.ensures in
    let all : length c.loop-me.desks.items ≡ c.args.ranks = omega arith in
    rw (← all) (new_desk c.args.capacity c.in_ok-rows.rows.items c.in_ok-rows.columns.items c.loop-me.desks.items (omega arith) (omega arith) (rw all made.rows) (rw all made.columns) made.lanes inv.made a k (omega arith))
