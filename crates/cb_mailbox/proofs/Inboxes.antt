-- The lanes of a mailbox stay lanes as one of them changes.
use Rattle.std.proofs.Common.{◌≡◌, ◌≢◌, ℕ, ◌<◌, Bool, true, false, List, Some, None, Result, Ok, Err, IfOk, IfErr, OnErr, if◌then◌else◌, refl, sym, ◌∙◌, ap, subst, arith, ⊎_elim}
use Rattle.std.proofs.lemmas.Grind.{common_steps}
use Rattle.std.proofs.lemmas.List.{get_or-set_other, length-set, set-get_or}
use Rattle.std.proofs.lemmas.Bool.{cases_order}
use Rattle.cb_letters.specs.declared.Tag.{Tag}
use Rattle.cb_letters.specs.declared.Body.{Body}
use Rattle.cb_letters.specs.declared.PostRefusal.{PostRefusal}
use Rattle.cb_letters.specs.declared.PostRefusal.TheVariants.{Stranger}
use Rattle.cb_letters.specs.Lane.{Lane, IsLane, Accepts, new_lane, append, after_take, posted, refusal}
use Rattle.cb_letters.proofs.LaneLetters.{IsLane-new, IsLane-append, IsLane-take}
use Rattle.cb_mailbox.specs.Inbox.{Inbox, is_stranger, lane_from, with_lane, next_letter, post_refusal, AcceptsFrom, HasLanes}

-- a fact for each of two equal numbers, and for two that differ
pub same_or_other : (a b : ℕ) (Q : Type 0) → (a ≡ b → Q) → (a ≢ b → Q) → Q
same_or_other a b Q f h =
    ⊎_elim f (λ w. h (λ e. ⊎_elim (λ (o : a < b). absurd (omega arith)) (λ (o : b < a). absurd (omega arith)) w)) (cases_order a b)

module _ {P : Type 0} where
  -- the mailbox of this rank with these lanes
  abbrev pub box_of : ℕ → List (Lane P) → Inbox P
  box_of me lanes = record { me = me; lanes = lanes }

  -- the lane that was put there is found there
  pub lane_at : (box : Inbox P) (from : ℕ) (l : Lane P) → is_stranger box from ≡ false → lane_from (with_lane box from l) from ≡ l
  lane_at box from l inside = grind (arith, common_steps)

  -- every other lane is unchanged
  pub lane_other : (box : Inbox P) (from other : ℕ) (l : Lane P) → other ≢ from → lane_from (with_lane box from l) other ≡ lane_from box other
  lane_other box from other l apart = get_or-set_other box.lanes from other l (new_lane 0) apart

  -- one lane may be put in place of another
  pub HasLanes-set : (box : Inbox P) (from : ℕ) (l : Lane P) → HasLanes box → is_stranger box from ≡ false → IsLane from box.me l → HasLanes (with_lane box from l)
  HasLanes-set box from l h inside new other known =
      same_or_other other from (IsLane other box.me (lane_from (with_lane box from l) other))
      (λ e. subst (λ m. IsLane m box.me (lane_from (with_lane box from l) m)) (sym e) (subst (λ k. IsLane from box.me k) (sym (lane_at box from l inside)) new))
      (λ apart. subst (λ k. IsLane other box.me k) (sym (lane_other box from other l apart)) (h other (rw length-set at known)))

  -- a new mailbox has lanes
  pub HasLanes-new : (box : Inbox P) (capacity : ℕ → ℕ) → ((from : ℕ) → lane_from box from ≡ new_lane (capacity from)) → HasLanes box
  HasLanes-new box capacity new from inside = subst (λ l. IsLane from box.me l) (sym (new from)) (IsLane-new from box.me (capacity from))

  -- a take leaves lanes
  pub HasLanes-take : (box : Inbox P) (from : ℕ) → HasLanes box → is_stranger box from ≡ false → HasLanes (with_lane box from (after_take (lane_from box from)))
  HasLanes-take box from h inside = HasLanes-set box from (after_take (lane_from box from)) h inside (IsLane-take from box.me (lane_from box from) (h from inside))

  -- a post that is accepted leaves lanes
  pub HasLanes-post : (box : Inbox P) (from : ℕ) (tag : Tag) (body : Body P) → HasLanes box → is_stranger box from ≡ false → (lane_from box from).closed ≡ false
      → HasLanes (with_lane box from (append (lane_from box from) (next_letter box from tag body)))
  HasLanes-post box from tag body h inside open_lane =
      HasLanes-set box from (append (lane_from box from) (next_letter box from tag body)) h inside
      (IsLane-append from box.me (lane_from box from) (next_letter box from tag body) (h from inside) open_lane (record { sender = refl; addressee = refl; numbered = refl }))

  -- a lane that a post is accepted on isn't closed
  still_open : (l : Lane P) → refusal l ≡ None → l.closed ≡ false
  still_open l e = by_cases l.closed refl
    where
      by_cases : (b : Bool) → l.closed ≡ b → l.closed ≡ false
      by_cases true f = absurd (grind (arith, common_steps, e, f))
      by_cases false f = f

  -- a post to one lane, accepted or refused, leaves lanes
  pub HasLanes-answer : (box : Inbox P) (from : ℕ) (tag : Tag) (body : Body P) (r : Result ℕ (PostRefusal × Body P)) (old new : Lane P)
      → HasLanes box → is_stranger box from ≡ false → old ≡ lane_from box from
      → IfOk r (λ number. (refusal old ≡ None) × (number ≡ posted old) × (new ≡ append old (record { from = from; to = box.me; number = number; tag = tag; body = body })))
      → IfErr r (λ e. (refusal old ≡ Some e.0) × (e.1 ≡ body) × (new ≡ old))
      → HasLanes (with_lane box from new)
  HasLanes-answer box from tag body (Ok number) old new h inside here accepted refused =
      rw (accepted.2, accepted.1, here) (HasLanes-post box from tag body h inside (still_open (lane_from box from) (rw here at accepted.0)))
  HasLanes-answer box from tag body (Err why) old new h inside here accepted refused =
      rw (refused.2, here) (HasLanes-set box from (lane_from box from) h inside (h from inside))

  module _ (box : Inbox P) (from : ℕ) (old new : Lane P) (here : old ≡ lane_from box from) where
    -- a sender that has a lane is refused what its lane refuses
    refused_as : is_stranger box from ≡ false → (why : _) → refusal old ≡ why → post_refusal box from ≡ why
    refused_as inside why e = subst (λ b. (if b then Some Stranger else refusal (lane_from box from)) ≡ why) (sym inside) (ap refusal (sym here) ∙ e)

    -- what a lane accepts, its mailbox accepts
    pub accepts_from : (tag : Tag) (body : Body P) (number : ℕ) → is_stranger box from ≡ false → Accepts old from box.me tag body number new → AcceptsFrom box from tag body number (with_lane box from new)
    accepts_from tag body number inside accepted = (refused_as inside None accepted.0, accepted.1 ∙ ap posted here, rw (accepted.2, accepted.1, here) refl)

    -- what its lane refuses, it refuses, and is as before
    pub refuses_from : (why : PostRefusal) → is_stranger box from ≡ false → refusal old ≡ Some why → post_refusal box from ≡ Some why
    refuses_from why inside e = refused_as inside (Some why) e

    pub unchanged_from : new ≡ old → with_lane box from new ≡ box
    unchanged_from same = ap (λ l. with_lane box from l) (same ∙ here) ∙ ap (λ ls. record box { lanes = ls }) (set-get_or box.lanes from (new_lane 0))

    module _ (body : Body P) (inside : is_stranger box from ≡ false) where
      -- the same of an answer of the lane
      pub answer_accepts : (tag : Tag) (r : Result ℕ (PostRefusal × Body P)) → IfOk r (λ number. Accepts old from box.me tag body number new) → IfOk r (λ number. AcceptsFrom box from tag body number (with_lane box from new))
      answer_accepts tag (Ok number) accepted = accepts_from tag body number inside accepted
      answer_accepts tag (Err why) accepted = tt

      pub answer_refuses : (r : Result ℕ (PostRefusal × Body P)) → IfErr r (λ e. (refusal old ≡ Some e.0) × (e.1 ≡ body) × (new ≡ old)) → IfErr r (λ e. (post_refusal box from ≡ Some e.0) × (e.1 ≡ body))
      answer_refuses (Ok number) refused = tt
      answer_refuses (Err why) refused = (refuses_from why.0 inside refused.0, refused.1)

      pub answer_changes_nothing : (r : Result ℕ (PostRefusal × Body P)) → IfErr r (λ e. (refusal old ≡ Some e.0) × (e.1 ≡ body) × (new ≡ old)) → OnErr r (with_lane box from new ≡ box)
      answer_changes_nothing (Ok number) refused = tt
      answer_changes_nothing (Err why) refused = unchanged_from refused.2

pub ruleset lanes = (HasLanes-new)
