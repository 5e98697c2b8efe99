-- One lane, at a post, a take, and a step elsewhere.
use Rattle.std.proofs.Common.{◌≡◌, ℕ, ◌+◌, ◌≤◌, Bool, true, false, List, [], ◌∷◌, ◌++◌, length, refl, sym, ◌∙◌, ap, arith, append_assoc, length-append, subst}
use Rattle.std.specs.Prelude.{Option, ◌||◌}
use Rattle.std.proofs.lemmas.List.{append_cancel_left}
use Rattle.cb_letters.specs.declared.Tag.{Tag}
use Rattle.cb_letters.specs.declared.Letter.{Letter}
use Rattle.cb_letters.specs.declared.Body.{Body}
use Rattle.cb_letters.specs.declared.Body.TheVariants as body_is
use Rattle.cb_letters.specs.Letters.{is_close}
use Rattle.cb_letters.specs.Lane.{Lane, IsAddressed, posted, append}
use Rattle.cb_plan.specs.declared.stores.Slot.{Slot}
use Rattle.cb_plan.specs.declared.stores.Slot.TheVariants as slot_is
use Rattle.cb_plan.specs.PlanLetters.{Cargo, Sheet, Mark}
use Rattle.cb_rank.specs.Agreement.{IsSlotOf, IsBodyOf, AreLettersOf, ends_marked, LaneAgrees}

-- an agreement holds with higher counts of refusals too
pub slot_later : {M : Type 0} (r r' : ℕ → ℕ) (w : Option M) (x : Slot M) → ((o : ℕ) → r o ≤ r' o) → IsSlotOf r w x → IsSlotOf r' w x
slot_later r r' w slot_is.Empty g h = h
slot_later r r' w (slot_is.Sheet m) g h = h
slot_later r r' w (slot_is.Lost o) g h = (h.0, let k = g o in let e = h.1 in omega arith)

pub body_later : {M : Type 0} (r r' : ℕ → ℕ) (w : Cargo M) (x : Body M) → ((o : ℕ) → r o ≤ r' o) → IsBodyOf r w x → IsBodyOf r' w x
body_later r r' w body_is.Close g h = h
body_later r r' w (body_is.Sheet m) g h = h
body_later r r' w (body_is.Lost o) g h = (h.0, let k = g o in let e = h.1 in omega arith)

pub letters_later : {M : Type 0} (r r' : ℕ → ℕ) (from to n : ℕ) (ws : List (Tag × Cargo M)) (ls : List (Letter M)) → ((o : ℕ) → r o ≤ r' o) → AreLettersOf r from to n ws ls → AreLettersOf r' from to n ws ls
letters_later r r' from to n [] [] g h = tt
letters_later r r' from to n (w ∷ ws) (l ∷ ls) g h = (h.0, h.1, body_later r r' w.1 l.body g h.2, letters_later r r' from to (n + 1) ws ls g h.3)
letters_later r r' from to n [] (l ∷ ls) g h = h
letters_later r r' from to n (w ∷ ws) [] g h = h

pub letters_snoc : {M : Type 0} (r : ℕ → ℕ) (from to n m : ℕ) (ws : List (Tag × Cargo M)) (ls : List (Letter M)) (w : Tag × Cargo M) (l : Letter M) → AreLettersOf r from to n ws ls → m ≡ n + length ls → IsAddressed from to m l → l.tag ≡ w.0 → IsBodyOf r w.1 l.body → AreLettersOf r from to n (ws ++ w ∷ []) (ls ++ l ∷ [])
letters_snoc r from to n m [] [] w l h e a t b = (let z : m ≡ n = omega arith in subst (λ k. IsAddressed from to k l) z a, t, b, tt)
letters_snoc r from to n m (v ∷ ws) (k ∷ ls) w l h e a t b = (h.0, h.1, h.2, letters_snoc r from to (n + 1) m ws ls w l h.3 (omega arith) a t b)
letters_snoc r from to n m [] (k ∷ ls) w l h e a t b = absurd h
letters_snoc r from to n m (v ∷ ws) [] w l h e a t b = absurd h

abbrev pub is_mark : {M : Type 0} → Cargo M → Bool
is_mark (Sheet m) = false
is_mark Mark = true

mark_body : {M : Type 0} (r : ℕ → ℕ) (c : Cargo M) (b : Body M) → IsBodyOf r c b → is_mark c ≡ is_close b
mark_body r c (body_is.Sheet m) h = rw h refl
mark_body r c (body_is.Lost o) h = rw h.0.1 refl
mark_body r c body_is.Close h = rw h refl

mark_last : {M : Type 0} (ws : List (Tag × Cargo M)) (w : Tag × Cargo M) → ends_marked (ws ++ w ∷ []) ≡ is_mark w.1
mark_last [] (tag, Mark) = refl
mark_last [] (tag, Sheet m) = refl
mark_last ((t, Mark) ∷ []) w = mark_last [] w
mark_last ((t, Sheet m) ∷ []) w = mark_last [] w
mark_last ((t, Mark) ∷ (v ∷ ws)) w = mark_last (v ∷ ws) w
mark_last ((t, Sheet m) ∷ (v ∷ ws)) w = mark_last (v ∷ ws) w

-- a step that posts and takes nothing on this lane
pub lane_still : {M : Type 0} (r r' : ℕ → ℕ) (sent sent' received received' : List (Tag × Cargo M)) (from to : ℕ) (l : Lane M) → ((o : ℕ) → r o ≤ r' o) → sent' ≡ sent → received' ≡ received → LaneAgrees sent received r from to l → LaneAgrees sent' received' r' from to l
lane_still r r' sent sent' received received' from to l g es er h = record {
  counted = rw er h.counted;
  marked = rw es h.marked;
  waits = (h.waits.0, rw (es, er) h.waits.1, letters_later r r' from to l.taken h.waits.0 l.queue g h.waits.2);
}

closed_then : (b c : Bool) → b ≡ false → (b || c) ≡ c
closed_then false c e = refl
closed_then true c e = cc

-- a post on an open lane
pub lane_posts : {M : Type 0} (r r' : ℕ → ℕ) (sent sent' received : List (Tag × Cargo M)) (from to : ℕ) (l : Lane M) (w : Tag × Cargo M) (x : Letter M) → ((o : ℕ) → r o ≤ r' o) → sent' ≡ sent ++ w ∷ [] → ends_marked sent ≡ false → IsAddressed from to (posted l) x → x.tag ≡ w.0 → IsBodyOf r' w.1 x.body → LaneAgrees sent received r from to l → LaneAgrees sent' received r' from to (append l x)
lane_posts r r' sent sent' received from to l w x g es unshut a tag body h = record {
  counted = h.counted;
  marked = closed_then l.closed (is_close x.body) (h.marked ∙ unshut) ∙ sym (rw es (mark_last sent w ∙ mark_body r' w.1 x.body body));
  waits = (
    h.waits.0 ++ w ∷ [],
    rw es (rw (← h.waits.1) (sym (append_assoc received h.waits.0 (w ∷ [])))),
    letters_snoc r' from to l.taken (posted l) h.waits.0 l.queue w x (letters_later r r' from to l.taken h.waits.0 l.queue g h.waits.2) refl a tag body,
  );
}

-- the oldest queued letter is the next one of the lane
pub first_waiting : {L : Type 0} (sent received waiting whole after_sent after_received : List L) (v w : L) → received ++ v ∷ waiting ≡ sent → sent ++ after_sent ≡ whole → (received ++ w ∷ []) ++ after_received ≡ whole → v ≡ w
first_waiting sent received waiting whole after_sent after_received v w e s r =
    let both : received ++ (v ∷ (waiting ++ after_sent)) ≡ received ++ (w ∷ after_received) = sym (append_assoc received (v ∷ waiting) after_sent) ∙ (rw e s) ∙ sym (rw (append_assoc received (w ∷ []) after_received) at r) in
    let tails = append_cancel_left received (v ∷ (waiting ++ after_sent)) (w ∷ after_received) both in
    cc

-- the letter taken is the plan's, and the rest stays queued
took : {M : Type 0} (r r' : ℕ → ℕ) (sent received received' whole after_sent after_received : List (Tag × Cargo M)) (from to n : ℕ) (queue : List (Letter M)) (w : Tag × Cargo M) (x : Letter M) (waiting : List (Tag × Cargo M)) → ((o : ℕ) → r o ≤ r' o) → sent ++ after_sent ≡ whole → received' ++ after_received ≡ whole → received' ≡ received ++ w ∷ [] → received ++ waiting ≡ sent → AreLettersOf r from to n waiting (x ∷ queue) → (x.tag ≡ w.0) × IsBodyOf r w.1 x.body × ((rest : List (Tag × Cargo M)) × (received' ++ rest ≡ sent) × AreLettersOf r' from to (n + 1) rest queue)
took r r' sent received received' whole after_sent after_received from to n queue w x [] g s_whole r_whole er ew m = absurd m
took r r' sent received received' whole after_sent after_received from to n queue w x (v ∷ waiting) g s_whole r_whole er ew m =
    let same : v ≡ w = first_waiting sent received waiting whole after_sent after_received v w ew s_whole (rw er at r_whole) in (
      m.1 ∙ ap (λ y. y.0) same,
      subst (λ y. IsBodyOf r y.1 x.body) same m.2,
      (waiting, rw (er, ← same) (append_assoc received (v ∷ []) waiting ∙ ew), letters_later r r' from to (n + 1) waiting queue g m.3),
    )

-- the oldest letter of a lane has the plan's tag and body, and the lane still agrees without it
pub lane_takes : {M : Type 0} (r r' : ℕ → ℕ) (sent received received' whole after_sent after_received : List (Tag × Cargo M)) (from to : ℕ) (l l' : Lane M) (w : Tag × Cargo M) (x : Letter M) → ((o : ℕ) → r o ≤ r' o) → sent ++ after_sent ≡ whole → received' ++ after_received ≡ whole → received' ≡ received ++ w ∷ [] → l.queue ≡ x ∷ l'.queue → l'.taken ≡ l.taken + 1 → l'.closed ≡ l.closed → LaneAgrees sent received r from to l → (x.tag ≡ w.0) × IsBodyOf r w.1 x.body × LaneAgrees sent received' r' from to l'
lane_takes r r' sent received received' whole after_sent after_received from to l l' w x g s_whole r_whole er eq et ec h =
    let letters : AreLettersOf r from to l.taken h.waits.0 (x ∷ l'.queue) = subst (λ q. AreLettersOf r from to l.taken h.waits.0 q) eq h.waits.2 in
    let t = took r r' sent received received' whole after_sent after_received from to l.taken l'.queue w x h.waits.0 g s_whole r_whole er h.waits.1 letters in (
      t.0,
      t.1,
      record {
        counted = let c = h.counted in let z = length-append received (w ∷ []) in rw (er, et) (omega arith);
        marked = ec ∙ h.marked;
        waits = (t.2.0, t.2.1, subst (λ n. AreLettersOf r' from to n t.2.0 l'.queue) (sym et) t.2.2);
      },
    )
