-- Which rank a run that gives up names: another rank of the plan.
use Rattle.std.proofs.Common.{◌≡◌, ℕ, sym, subst}
use Rattle.std.specs.Prelude.{Result, Ok, Err, IfErr}
use Rattle.std.specs.Result.{IsErrAnd}
use Rattle.cb_plan.specs.declared.acts.Half.TheVariants as half_is
use Rattle.cb_rank.specs.declared.wants.Want.TheVariants as want_is
use Rattle.cb_rank.specs.Ranks.{RankView, IsRank, want_of, next_half}
use Rattle.cb_rank.proofs.NextAct.{finds}
use Rattle.cb_rank.proofs.WantedHalf.{wants_post_to, wants_shut_to}
use Rattle.cb_rank_runs.specs.Runs.{IsOther}

-- a rank posts to another rank of its plan
pub posts_to_other : (x : RankView) (to : ℕ) → IsRank x → want_of (next_half x) ≡ want_is.Post to → IsOther x to
posts_to_other x to is wants =
    let it = wants_post_to (next_half x) to wants in
    let found = finds x (half_is.Post to it.0 it.1) is it.2 in
    (found.0, found.1)

-- a rank shuts the lane to another rank of its plan
pub shuts_to_other : (x : RankView) (to : ℕ) → IsRank x → want_of (next_half x) ≡ want_is.Shut to → IsOther x to
shuts_to_other x to is wants =
    let found = finds x (half_is.Shut to) is (wants_shut_to (next_half x) to wants) in
    (found.0, found.1)

-- an error that is passed on
pub err_is : {A E : Type 0} (P : E → Type 0) (x : E) (r : Result A E) → IsErrAnd r (λ e. e ≡ x) → P x → IfErr r P
err_is P x (Ok v) is holds = tt
err_is P x (Err e) is holds = subst P (sym is) holds
