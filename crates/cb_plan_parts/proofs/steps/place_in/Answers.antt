use Rattle.std.proofs.Common.{◌≡◌, ◌<◌, ℕ, true, length, refl, ◌∙◌, arith}
use Rattle.std.specs.Prelude.{Some, nat_lt}
use Rattle.std.proofs.lemmas.Bool.Decides.{nat_tests}
use Rattle.cb_plan_parts.specs.Collectives.{place_of}
use Rattle.cb_plan_parts.proofs.MemberPlaces.{place-below}
use Rattle.cb_plan_parts.proofs.steps.place_in.Goals as goal

pub returns-in-None : goal.returns-in-None
returns-in-None c =
    let place : ℕ = place_of c.args.members.now c.args.rank in
    let l : place < length c.args.members.now = place-below c.args.members.now c.args.rank c.requires in
    let t : nat_lt place (length c.args.members.now) ≡ true = grind (arith, nat_tests) in
    let e : c.first_place.result ≡ Some place = c.first_place.ensures ∙ rw t refl in
    absurd (cc (e, c.in-None.is))
