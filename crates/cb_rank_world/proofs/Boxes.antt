-- The mailbox of a rank, read by its number, and the loop that opens the mailboxes.
use Rattle.std.proofs.Common.{ℕ, ◌≡◌, ◌≢◌, ◌<◌, ◌+◌, ◌-◌, Bool, true, false, List, [], ◌∷◌, ◌++◌, length, ◌∙◌, ap, arith, if◌then◌else◌, length-append}
use Rattle.std.specs.Prelude.{slice_index_or, ◌==◌}
use Rattle.std.proofs.lemmas.List.{get_or_append_left}
use Rattle.std.proofs.Math.Seq.{get_or-append_right}
use Rattle.std.proofs.lemmas.Bool.Decides.{nat_tests}
use Rattle.cb_letters.specs.declared.Letter.{Letter}
use Rattle.cb_letters.specs.declared.Taken.TheVariants as taken_is
use Rattle.cb_letters.specs.Letters.{is_close}
use Rattle.cb_letters.specs.Lane.{new_lane, answer_at}
use Rattle.cb_mailbox.specs.Inbox.{Inbox, lane_from, is_stranger}
use Rattle.cb_plan.proofs.Effects.{split}
use Rattle.cb_rank_world.specs.Ends.{EndsView, IsEnds, box_in, is_out}
use Rattle.cb_rank_world.specs.EndLaws.{known_there}

module _ {P : Type 0} where
  -- a rank is no stranger in the mailbox of another, read by its number
  pub known : (me : ℕ) (boxes : List (Inbox P)) (from to : ℕ) (x : Inbox P) → IsEnds (record { me = me; boxes = boxes }) → from < length boxes → to < length boxes → from ≢ to → x ≡ slice_index_or boxes to x → (is_stranger x from ≡ false) × (x ≡ box_in boxes to)
  known me boxes from to x is inside there apart read =
      let ends : EndsView P = record { me = from; boxes = boxes } in
      let sound : IsEnds ends = record { inside = λ _. inside; owners = is.owners; lanes = is.lanes } in
      let out : is_out ends to ≡ false = grind (arith, nat_tests, apart, there) in
      let it = known_there ends to x sound out read in
      (it.0, it.1)

  -- a take from a lane doesn't return `Stranger`
  pub not_stranger : (closed : Bool) (xs : List (Letter P)) → answer_at closed xs ≡ taken_is.Stranger → ⊥
  not_stranger true [] e = cc
  not_stranger false [] e = cc
  not_stranger closed (x ∷ xs) e = split (is_close x.body) (λ t. let f = rw t at e in cc) (λ t. let f = rw t at e in cc)

  -- the mailbox of rank `t` is new
  pub record IsNewBox (ranks capacity t : ℕ) (b : Inbox P) : Type 0 where
    pub owner : b.me ≡ t
    pub lanes : length b.lanes ≡ ranks
    pub new : (from : ℕ) → lane_from b from ≡ new_lane (if is_stranger b from then 0 else capacity)

  -- the mailboxes of the first ranks are new
  pub record AreFirstBoxes (ranks capacity n : ℕ) (boxes : List (Inbox P)) : Type 0 where
    pub size : length boxes ≡ n
    pub each : (t : ℕ) → t < n → IsNewBox ranks capacity t (box_in boxes t)

  pub one_box_more : (ranks capacity n : ℕ) (boxes : List (Inbox P)) (b : Inbox P) → AreFirstBoxes ranks capacity n boxes → IsNewBox ranks capacity n b → AreFirstBoxes ranks capacity (n + 1) (boxes ++ b ∷ [])
  one_box_more ranks capacity n boxes b are new =
      let size = are.size in
      record {
        size = let long = length-append boxes (b ∷ []) in omega arith;
        each = λ t l.
            split (t == n)
            (λ e.
            let same : t ≡ n = grind (arith, nat_tests) in
            let blank : Inbox P = record { me = t; lanes = [] } in
            let first : t - length boxes ≡ 0 = omega arith in
            let here : box_in (boxes ++ b ∷ []) t ≡ b = get_or-append_right boxes (b ∷ []) t blank (omega arith) ∙ ap (λ k. slice_index_or (b ∷ []) k blank) first in
            rw (here, same) new)
            (λ e.
            let below : t < n = grind (arith, nat_tests) in
            let there : box_in (boxes ++ b ∷ []) t ≡ box_in boxes t = get_or_append_left boxes (b ∷ []) (record { me = t; lanes = [] }) t (omega arith) in
            rw there (are.each t below));
      }
