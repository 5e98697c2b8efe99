use Rattle.std.proofs.Common.{◌<◌, [], length, map, ap, ◌∙◌, arith}
use Rattle.std.specs.Prelude.{vec_capacity}
use Rattle.std.proofs.lemmas.List.{length-map, length-set}
use Rattle.cb_rank_driven.proofs.ListOfLists.{same_set, image_there}
use Rattle.cb_rank_driven.proofs.lane_letters.LaneLetters.make_room.Goals as goal

pub returns-in_err-reserve-clause-same : goal.returns-in_err-reserve-clause-same
returns-in_err-reserve-clause-same g c =
    same_set (λ v. map (λ s. s.value) v.items) c.self.inside.lists.items c.args.rank c.index_mut.result.now c.reserve.new.self c.index_mut.ensures.value (ap (map (λ s. s.value)) c.in_err-reserve.ensures.items)
    ∙ ap (λ n. n.letters) c.self.view_is

pub returns-clause-same : goal.returns-clause-same
returns-clause-same g c =
    same_set (λ v. map (λ s. s.value) v.items) c.self.inside.lists.items c.args.rank c.index_mut.result.now c.reserve.new.self c.index_mut.ensures.value (ap (map (λ s. s.value)) c.in_ok-reserve.ensures.items)
    ∙ ap (λ n. n.letters) c.self.view_is

pub returns-clause-room : goal.returns-clause-room
returns-clause-room g c =
    let xs = c.self.inside.lists.items in
    let x = c.reserve.new.self in
    let view = ap (λ n. n.letters) c.self.view_is in
    let size = ap length view in
    let count = length-map xs (λ v. map (λ s. s.value) v.items) in
    let l : c.args.rank < length xs = let below = c.requires in omega arith in
    let same = length-set xs c.args.rank x in
    let letters = image_there (λ v. map (λ s. s.value) v.items) xs c.args.rank x [] l same in
    let room = image_there vec_capacity xs c.args.rank x 0 l same in
    let long = length-map x.items (λ s. s.value) in
    let few = ap length letters in
    let wide = c.in_ok-reserve.ensures.ok in
    let counted = x.ok.0 in
    rw (room, letters) (omega arith)
