use Rattle.std.proofs.Common.{[], ◌∷◌, ◌++◌, length, map, get_or, refl, ap, ◌∙◌, arith}
use Rattle.std.specs.Prelude.{slice_set}
use Rattle.std.proofs.lemmas.List.{length-map}
use Rattle.cb_rank_driven.proofs.ListOfLists.{grown_set, more_images}
use Rattle.cb_rank_driven.proofs.lane_letters.LaneLetters.note.Goals as goal

pub returns : goal.returns
returns g c =
    let xs = c.self.inside.lists.items in
    let view = ap (λ n. n.letters) c.self.view_is in
    let size = ap length view in
    let count = length-map xs (λ v. map (λ s. s.value) v.items) in
    let more = more_images (λ s. s.value) c.index_mut.result.now.items c.push_reserved.new.self.items c.args.letter c.args.letter.value c.push_reserved.ensures.items refl in
    grown_set (λ v. map (λ s. s.value) v.items) xs c.args.rank c.index_mut.result.now c.push_reserved.new.self c.args.letter.value (let l = c.requires.place in omega arith) c.index_mut.ensures.value more
    ∙ ap (λ ls. slice_set ls c.args.rank (get_or ls c.args.rank [] ++ c.args.letter.value ∷ [])) view
