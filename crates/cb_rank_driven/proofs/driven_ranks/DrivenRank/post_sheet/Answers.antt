use Rattle.std.proofs.Common.{refl}
use Rattle.cb_rank_driven.specs.DrivenRanks.{DrivenView, driven_view}
use Rattle.cb_rank_driven.proofs.DrivenHalves.{posts_inside, posted_sheet}
use Rattle.cb_rank_driven.proofs.driven_ranks.DrivenRank.post_sheet.Goals as goal

pub make_room-requires : goal.make_room-requires
make_room-requires g c =
    let x : DrivenView = driven_view c.self.inside.rank c.self.inside.first.value c.self.inside.posted.letters c.self.inside.taken.letters in
    posts_inside g.S.Semiring.arithmetic x _ c.self.view_is c.self.invariant.1 c.args.to x.posted refl c.requires.want

pub count-number-requires : goal.count-number-requires
count-number-requires g c =
    let x : DrivenView = driven_view c.self.inside.rank c.self.inside.first.value c.self.inside.posted.letters c.self.inside.taken.letters in
    posts_inside g.S.Semiring.arithmetic x _ c.self.view_is c.self.invariant.1 c.args.to _ c.in_ok-make_room.ensures.same c.requires.want

pub note-requires-clause-place : goal.note-requires-clause-place
note-requires-clause-place g c =
    let x : DrivenView = driven_view c.self.inside.rank c.self.inside.first.value c.self.inside.posted.letters c.self.inside.taken.letters in
    posts_inside g.S.Semiring.arithmetic x _ c.self.view_is c.self.invariant.1 c.args.to _ c.in_ok-make_room.ensures.same c.requires.want

pub invariant_of-self-2 : goal.invariant_of-self-2
invariant_of-self-2 g c =
    let x : DrivenView = driven_view c.self.inside.rank c.self.inside.first.value c.self.inside.posted.letters c.self.inside.taken.letters in
    let y : DrivenView = record x { rank = c.outgoing-body.new.self; posted = c.note.new.self.letters } in
    let did = posted_sheet g.S.Semiring.arithmetic x _ c.self.view_is c.self.invariant.1 y refl c.want-after.ensures.rank c.args.to c.make_room.new.self.letters c.self.inside.me c.count-number.result c.of.result.value c.self.invariant.0 c.count-number.ensures c.in_ok-make_room.ensures.same c.note.ensures refl c.outgoing-body.result.0 c.outgoing-body.result.1 c.of.ensures c.requires.want c.outgoing-body.ensures.half in
    (did.0, did.1)

pub returns-clause-posts : goal.returns-clause-posts
returns-clause-posts g c =
    let x : DrivenView = driven_view c.self.inside.rank c.self.inside.first.value c.self.inside.posted.letters c.self.inside.taken.letters in
    let y : DrivenView = record x { rank = c.outgoing-body.new.self; posted = c.note.new.self.letters } in
    let did = posted_sheet g.S.Semiring.arithmetic x _ c.self.view_is c.self.invariant.1 y refl c.want-after.ensures.rank c.args.to c.make_room.new.self.letters c.self.inside.me c.count-number.result c.of.result.value c.self.invariant.0 c.count-number.ensures c.in_ok-make_room.ensures.same c.note.ensures refl c.outgoing-body.result.0 c.outgoing-body.result.1 c.of.ensures c.requires.want c.outgoing-body.ensures.half in
    did.2
