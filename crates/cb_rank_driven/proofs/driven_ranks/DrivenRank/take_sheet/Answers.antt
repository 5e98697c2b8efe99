use Rattle.std.proofs.Common.{refl, ◌∙◌, rules}
use Rattle.cb_rank_driven.specs.DrivenRanks.{DrivenView, driven_view}
use Rattle.cb_rank_driven.proofs.DrivenHalves.{takes_inside, took_sheet}
use Rattle.cb_rank_driven.proofs.driven_ranks.DrivenRank.take_sheet.Goals as goal

pub count-requires : goal.count-requires
count-requires g c =
    let x : DrivenView = driven_view c.self.inside.rank c.self.inside.first.value c.self.inside.posted.letters c.self.inside.taken.letters in
    takes_inside g.S.Semiring.arithmetic x _ c.self.view_is c.self.invariant.1 c.args.from x.taken refl c.requires.want

pub make_room-requires : goal.make_room-requires
make_room-requires g c =
    let x : DrivenView = driven_view c.self.inside.rank c.self.inside.first.value c.self.inside.posted.letters c.self.inside.taken.letters in
    takes_inside g.S.Semiring.arithmetic x _ c.self.view_is c.self.invariant.1 c.args.from x.taken refl c.requires.want

pub note-requires-clause-place : goal.note-requires-clause-place
note-requires-clause-place g c =
    let x : DrivenView = driven_view c.self.inside.rank c.self.inside.first.value c.self.inside.posted.letters c.self.inside.taken.letters in
    takes_inside g.S.Semiring.arithmetic x _ c.self.view_is c.self.invariant.1 c.args.from _ c.in_ok-make_room.ensures.same c.requires.want

pub invariant_of-self-2 : goal.invariant_of-self-2
invariant_of-self-2 g c =
    let x : DrivenView = driven_view c.self.inside.rank c.self.inside.first.value c.self.inside.posted.letters c.self.inside.taken.letters in
    let y : DrivenView = record x { rank = c.accept.new.self; taken = c.note.new.self.letters } in
    let did = took_sheet g.S.Semiring.arithmetic x _ c.self.view_is c.self.invariant.1 y refl c.want-after.ensures.rank c.args.from c.make_room.new.self.letters c.args.letter c.of-note.result.value c.of-note.ensures (search rules) c.in_ok-make_room.ensures.same c.note.ensures refl c.requires.want (c.in-Ok.ensures.awaited.0 refl) c.in-Ok.ensures.taken in
    (c.self.invariant.0 ∙ did.0, did.1)

pub returns-clause-takes : goal.returns-clause-takes
returns-clause-takes g c =
    let x : DrivenView = driven_view c.self.inside.rank c.self.inside.first.value c.self.inside.posted.letters c.self.inside.taken.letters in
    let y : DrivenView = record x { rank = c.accept.new.self; taken = c.note.new.self.letters } in
    let did = took_sheet g.S.Semiring.arithmetic x _ c.self.view_is c.self.invariant.1 y refl c.want-after.ensures.rank c.args.from c.make_room.new.self.letters c.args.letter c.of-note.result.value c.of-note.ensures (search rules) c.in_ok-make_room.ensures.same c.note.ensures refl c.requires.want (c.in-Ok.ensures.awaited.0 refl) c.in-Ok.ensures.taken in
    did.2
