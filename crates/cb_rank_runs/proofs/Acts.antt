-- One act of the whole plan, if each rank did its halves of it by itself.
use Rattle.std.proofs.Common.{◌≡◌, ◌≢◌, ℕ, ◌+◌, ◌<◌, ◌≤◌, Bool, true, false, List, [], ◌∷◌, ◌++◌, length, refl, sym, ap, ◌∙◌, subst, arith, append_assoc, append-nil}
use Rattle.std.specs.Prelude.{Option, IsSome, ◌==◌, ◌&&◌, if◌then◌else◌, slice_set}
use Rattle.std.proofs.lemmas.Bool.Decides.{nat_tests}
use Rattle.std.proofs.lemmas.List.{append_cancel_left, length-set, get_or-set_same, get_or-set_other}
use Rattle.cb_semirings.specs.Arithmetic.{Arithmetic}
use Rattle.cb_matrix.specs.Sparse.{Sparse, Extent}
use Rattle.cb_letters.specs.declared.Tag.{Tag}
use Rattle.cb_letters.specs.declared.Letter.{Letter}
use Rattle.cb_letters.specs.declared.Body.TheVariants as body_is
use Rattle.cb_letters.specs.Letters.{mark_tag}
use Rattle.cb_letters.specs.Lane.{IsAddressed}
use Rattle.cb_plan.specs.declared.acts.Op.{Op}
use Rattle.cb_plan.specs.declared.acts.Act.{Act}
use Rattle.cb_plan.specs.declared.acts.Act.TheVariants as act_is
use Rattle.cb_plan.specs.declared.acts.Half.{Half}
use Rattle.cb_plan.specs.declared.acts.Half.TheVariants as half_is
use Rattle.cb_plan.specs.declared.stores.Slot.{Slot}
use Rattle.cb_plan.specs.declared.stores.Slot.TheVariants as slot_is
use Rattle.cb_plan.specs.Algebras.{matrices}
use Rattle.cb_plan.specs.Checks.{IsSound, Lanes, operands_of}
use Rattle.cb_plan.specs.PlanLetters.{Cargo, Sheet, Mark, letter_of}
use Rattle.cb_plan.specs.Meaning.{State, act, one, result_of, target_of}
use Rattle.cb_plan.specs.Programs.{halves_of, take_of}
use Rattle.cb_plan.proofs.ActOnStores.{first_below}
use Rattle.cb_rank.specs.Agreement.{IsSlotOf, IsBodyOf, AreLettersOf}
use Rattle.cb_rank.specs.Halves.{Course, DoesHalf, RunsTo, slot_at, with_letter, slot_of_body}
use Rattle.cb_plan.proofs.Effects.{split}
use Rattle.cb_rank.proofs.OwnActs.{some_shape}
use Rattle.cb_rank.proofs.Halves.{all_some, some_by_shape, arrived_slot}
use Rattle.cb_rank_runs.proofs.Results.{worked_by_end, copied_by_end}

-- these letters were posted on a lane, and all were taken
pub record IsWholeLane (refs : ℕ → ℕ) (f t : ℕ) (sent : List (Tag × Cargo Sparse)) (posted taken : List (Letter Sparse)) : Type 0 where
  pub letters : AreLettersOf refs f t 0 sent posted
  pub all_taken : taken ≡ posted

-- courses agree with a state of the whole plan and the letters so far. The counts of refusals are those at the end
pub record CoursesStand (refs : ℕ → ℕ) (ranks : ℕ) (state : State Sparse) (sent : ℕ → ℕ → List (Tag × Cargo Sparse)) (c : ℕ → Course) : Type 0 where
  pub slots : (r n : ℕ) → r < ranks → IsSlotOf refs (state r n) (slot_at (c r).slots n)
  pub sizes : (r : ℕ) → r < ranks → length (c r).slots ≡ 256
  pub lanes : (f t : ℕ) → f < ranks → t < ranks → f ≢ t → IsWholeLane refs f t (sent f t) ((c f).posted t) ((c t).taken f)

-- two prefixes of one list
abbrev pub GoToOne : List (Letter Sparse) → List (Letter Sparse) → Type 0
GoToOne xs ys = (u : List (Letter Sparse)) × (v : List (Letter Sparse)) × (xs ++ u ≡ ys ++ v)

one_letter : (old : List (Letter Sparse)) (x y : Letter Sparse) → GoToOne (old ++ x ∷ []) (old ++ y ∷ []) → x ≡ y
one_letter old x y m =
    let e : old ++ (x ∷ m.0) ≡ old ++ (y ∷ m.1) = sym (append_assoc old (x ∷ []) m.0) ∙ m.2 ∙ append_assoc old (y ∷ []) m.1 in
    let k = append_cancel_left old (x ∷ m.0) (y ∷ m.1) e in
    cc

letters_snoc : (refs : ℕ → ℕ) (f t n k : ℕ) (ws : List (Tag × Cargo Sparse)) (xs : List (Letter Sparse)) (w : Tag × Cargo Sparse) (x : Letter Sparse) → k ≡ n + length xs → AreLettersOf refs f t n ws xs → IsAddressed f t k x → x.tag ≡ w.0 → IsBodyOf refs w.1 x.body → AreLettersOf refs f t n (ws ++ w ∷ []) (xs ++ x ∷ [])
letters_snoc refs f t n k [] [] w x e h a g b = let same : k ≡ n = omega arith in (subst (λ j. IsAddressed f t j x) same a, g, b, tt)
letters_snoc refs f t n k (v ∷ ws) (y ∷ xs) w x e h a g b = (h.0, h.1, h.2, letters_snoc refs f t (n + 1) k ws xs w x (omega arith) h.3 a g b)
letters_snoc refs f t n k [] (y ∷ xs) w x e h a g b = absurd h
letters_snoc refs f t n k (v ∷ ws) [] w x e h a g b = absurd h

-- the letter that an act posts, with this number
pub record IsLetterFor (refs : ℕ → ℕ) (f t : ℕ) (w : Tag × Cargo Sparse) (count : ℕ) (y : Letter Sparse) : Type 0 where
  pub addressed : IsAddressed f t count y
  pub tagged : y.tag ≡ w.0
  pub carries : IsBodyOf refs w.1 y.body

lane_passes : (refs : ℕ → ℕ) (f t : ℕ) (sent : List (Tag × Cargo Sparse)) (posted taken posted' taken' : List (Letter Sparse)) (b : Bool) (w : Tag × Cargo Sparse) (y x : Letter Sparse) → IsWholeLane refs f t sent posted taken →
    posted' ≡ posted ++ (if b then y ∷ [] else []) → taken' ≡ taken ++ (if b then x ∷ [] else []) → (b ≡ true → (x ≡ y) × IsLetterFor refs f t w (length posted) y) → IsWholeLane refs f t (sent ++ (if b then w ∷ [] else [])) posted' taken'
lane_passes refs f t sent posted taken posted' taken' true w y x h p q is =
    let r = is refl in
    let right = r.1 in
    record {
      letters = rw p (letters_snoc refs f t 0 (length posted) sent posted w y (omega arith) h.letters right.addressed right.tagged right.carries);
      all_taken = q ∙ ap (λ l. l ++ x ∷ []) h.all_taken ∙ ap (λ z. posted ++ z ∷ []) r.0 ∙ sym p;
    }
lane_passes refs f t sent posted taken posted' taken' false w y x h p q is = record {
  letters = rw (append-nil sent, p, append-nil posted) h.letters;
  all_taken = q ∙ append-nil taken ∙ h.all_taken ∙ sym (append-nil posted) ∙ sym p;
}

-- a letter went from one rank to another
pub record IsHandedOver (ranks : ℕ) (c c1 : ℕ → Course) (from to : ℕ) (y x : Letter Sparse) : Type 0 where
  pub from_posts : (k : ℕ) → (c1 from).posted k ≡ with_letter (c from).posted to y k
  pub from_takes : (k : ℕ) → (c1 from).taken k ≡ (c from).taken k
  pub to_takes : (k : ℕ) → (c1 to).taken k ≡ with_letter (c to).taken from x k
  pub to_posts : (k : ℕ) → (c1 to).posted k ≡ (c to).posted k
  pub others : (r : ℕ) → r < ranks → (from == r) ≡ false → (to == r) ≡ false → c1 r ≡ c r

with_letter_is : (lists : ℕ → List (Letter Sparse)) (j : ℕ) (x : Letter Sparse) (k : ℕ) → with_letter lists j x k ≡ lists k ++ (if j == k then x ∷ [] else [])
with_letter_is lists j x k = split (j == k) (λ t. rw t refl) (λ f. rw f (sym (append-nil (lists k))))

module _ (refs : ℕ → ℕ) (ranks : ℕ) (state : State Sparse) (sent : ℕ → ℕ → List (Tag × Cargo Sparse)) (c c1 : ℕ → Course) (from to : ℕ) (l : from < ranks) (m : to < ranks) (apart : from ≢ to) (w : Tag × Cargo Sparse) (y x : Letter Sparse) (stands : CoursesStand refs ranks state sent c) (passes : IsHandedOver ranks c c1 from to y x) where
  posted_now : (f t : ℕ) → f < ranks → (c1 f).posted t ≡ (c f).posted t ++ (if from == f && to == t then y ∷ [] else [])
  posted_now f t h =
      split (from == f)
      (λ u. let e : f ≡ from = grind (arith, nat_tests) in let t1 : (from == from) ≡ true = grind (arith, nat_tests) in rw (e, t1) (passes.from_posts t ∙ with_letter_is (c from).posted to y t))
      (λ u. split (to == f)
      (λ v. let e : to ≡ f = grind (arith, nat_tests) in rw u (rw (← e) (passes.to_posts t ∙ sym (append-nil ((c to).posted t)))))
      (λ v. rw u (ap (λ (z : Course). z.posted t) (passes.others f h u v) ∙ sym (append-nil ((c f).posted t)))))

  taken_now : (f t : ℕ) → t < ranks → (c1 t).taken f ≡ (c t).taken f ++ (if from == f && to == t then x ∷ [] else [])
  taken_now f t h =
      split (to == t)
      (λ u. let e : to ≡ t = grind (arith, nat_tests) in
      split (from == f)
      (λ v. rw (u, v) (rw (← e) (passes.to_takes f ∙ with_letter_is (c to).taken from x f ∙ rw v refl)))
      (λ v. rw (u, v) (rw (← e) (passes.to_takes f ∙ with_letter_is (c to).taken from x f ∙ rw v refl))))
      (λ u. let both : (from == f && to == t) ≡ false = grind (arith, nat_tests) in
      split (from == t)
      (λ v. let e : from ≡ t = grind (arith, nat_tests) in rw both (rw (← e) (passes.from_takes f ∙ sym (append-nil ((c from).taken f)))))
      (λ v. rw both (ap (λ (z : Course). z.taken f) (passes.others t h v u) ∙ sym (append-nil ((c t).taken f)))))

  -- the letter that is taken is the one that was posted
  pub same_letter : GoToOne ((c1 to).taken from) ((c1 from).posted to) → x ≡ y
  same_letter meet =
      let t1 : (from == from && to == to) ≡ true = grind (arith, nat_tests) in
      let lane = stands.lanes from to l m apart in
      let p : (c1 from).posted to ≡ (c from).posted to ++ y ∷ [] = posted_now from to l ∙ rw t1 refl in
      let q : (c1 to).taken from ≡ (c from).posted to ++ x ∷ [] = taken_now from to m ∙ rw t1 (ap (λ z. z ++ x ∷ []) lane.all_taken) in
      one_letter ((c from).posted to) x y (subst (λ z. GoToOne z ((c from).posted to ++ y ∷ [])) q (subst (λ z. GoToOne ((c1 to).taken from) z) p meet))

  pub lanes_pass : x ≡ y → IsLetterFor refs from to w (length ((c from).posted to)) y → (f t : ℕ) → f < ranks → t < ranks → f ≢ t → IsWholeLane refs f t (sent f t ++ (if from == f && to == t then w ∷ [] else [])) ((c1 f).posted t) ((c1 t).taken f)
  lanes_pass same right f t g h ne =
      lane_passes refs f t (sent f t) ((c f).posted t) ((c t).taken f) ((c1 f).posted t) ((c1 t).taken f) (from == f && to == t) w y x (stands.lanes f t g h ne) (posted_now f t g) (taken_now f t h)
      (λ u.
      let e : f ≡ from = grind (arith, nat_tests) in
      let k : t ≡ to = grind (arith, nat_tests) in
      (same, rw (e, k) right))

-- an act that sets a slot
set_stands : (refs : ℕ → ℕ) (old new : List (Slot Sparse)) (f g : ℕ → Option Sparse) (k : ℕ) (w : Option Sparse) (x : Slot Sparse) → length old ≡ 256 → k < 256 → new ≡ slice_set old k x → ((n : ℕ) → IsSlotOf refs (f n) (slot_at old n)) → ((n : ℕ) → g n ≡ (if k == n then w else f n)) → IsSlotOf refs w x → (n : ℕ) → IsSlotOf refs (g n) (slot_at new n)
set_stands refs old new f g k w x size l e h is stands n =
    let inside : k < length old = omega arith in
    rw (e, is n) (split (k == n)
    (λ u. let same : n ≡ k = grind (arith, nat_tests) in let t : (k == k) ≡ true = grind (arith, nat_tests) in rw (same, t, get_or-set_same old k x slot_is.Empty inside) stands)
    (λ u. let ne : n ≢ k = grind (arith, nat_tests) in rw (u, get_or-set_other old k n x slot_is.Empty ne) (h n)))

only_half : (s : Arithmetic) (me : ℕ) (hs : List Half) (h : Half) (old new : Course) → hs ≡ h ∷ [] → RunsTo s me hs old new → DoesHalf s me h old new
only_half s me hs h old new e runs =
    let r : RunsTo s me (h ∷ []) old new = subst (λ z. RunsTo s me z old new) e runs in
    subst (λ z. DoesHalf s me h old z) (sym r.2) r.1

no_half : (s : Arithmetic) (me : ℕ) (hs : List Half) (old new : Course) → hs ≡ [] → RunsTo s me hs old new → new ≡ old
no_half s me hs old new e runs = subst (λ z. RunsTo s me z old new) e runs

module _ (s : Arithmetic) (refs : ℕ → ℕ) (ranks : ℕ) (state : State Sparse) (outline : State Extent) (shut : Lanes) (sent : ℕ → ℕ → List (Tag × Cargo Sparse)) (c c1 : ℕ → Course) (measured : (r n : ℕ) → outline r n ≡ one (λ (m : Sparse). m.shape) (state r n)) (counts : (r : ℕ) → r < ranks → (c1 r).refusals ≤ refs r) (stands : CoursesStand refs ranks state sent c) where
  abbrev pub DoTheirHalves : Act → Type 0
  DoTheirHalves a = (r : ℕ) → r < ranks → RunsTo s r (halves_of outline a r) (c r) (c1 r)

  abbrev pub StandAfter : Act → Type 0
  StandAfter a = CoursesStand refs ranks (act (matrices s) a state) (λ f t. sent f t ++ letter_of a state f t) c1

  pub works : (rank : ℕ) (op : Op) → IsSound ranks outline shut (act_is.Work rank op) → DoTheirHalves (act_is.Work rank op) → StandAfter (act_is.Work rank op)
  works rank op sound does =
      let l = (first_below ranks rank [] sound.ranks_exist).0 in
      let k = (first_below 256 (target_of op) (operands_of op) sound.slots_exist).0 in
      let t : (rank == rank) ≡ true = grind (arith, nat_tests) in
      let mine : halves_of outline (act_is.Work rank op) rank ≡ half_is.Work op ∷ [] = rw t refl in
      let did = only_half s rank (halves_of outline (act_is.Work rank op) rank) (half_is.Work op) (c rank) (c1 rank) mine (does rank l) in
      let there = all_some (outline rank) (state rank) (operands_of op) (measured rank) sound.filled in
      let left = worked_by_end s refs rank op (state rank) (c rank).slots did.0 (c rank).refusals (c1 rank).refusals (λ n. stands.slots rank n l) there (counts rank l) did.1 in
      let set : (c1 rank).slots ≡ slice_set (c rank).slots (target_of op) did.0 = ap (λ (z : Course). z.slots) did.2 in
      let quiet : (r : ℕ) → r < ranks → (rank == r) ≡ false → c1 r ≡ c r = λ r h u. no_half s r (halves_of outline (act_is.Work rank op) r) (c r) (c1 r) (rw u refl) (does r h) in
      let posts : (r j : ℕ) → r < ranks → (c1 r).posted j ≡ (c r).posted j = λ r j h. split (rank == r)
      (λ u. let e : r ≡ rank = grind (arith, nat_tests) in rw e (ap (λ (z : Course). z.posted j) did.2))
      (λ u. ap (λ (z : Course). z.posted j) (quiet r h u)) in
      let takes : (r j : ℕ) → r < ranks → (c1 r).taken j ≡ (c r).taken j = λ r j h. split (rank == r)
      (λ u. let e : r ≡ rank = grind (arith, nat_tests) in rw e (ap (λ (z : Course). z.taken j) did.2))
      (λ u. ap (λ (z : Course). z.taken j) (quiet r h u)) in
      record {
        slots = λ r n h. split (rank == r)
            (λ u.
            let e : r ≡ rank = grind (arith, nat_tests) in
            rw e (set_stands refs (c rank).slots (c1 rank).slots (state rank) (act (matrices s) (act_is.Work rank op) state rank) (target_of op) (result_of (matrices s) op (state rank)) did.0 (stands.sizes rank l) k set (λ j. stands.slots rank j l) (λ j. rw t refl) left n))
            (λ u. rw (u, quiet r h u) (stands.slots r n h));
        sizes = λ r h. split (rank == r)
            (λ u. let e : r ≡ rank = grind (arith, nat_tests) in rw e (ap length set ∙ length-set (c rank).slots (target_of op) did.0 ∙ stands.sizes rank l))
            (λ u. rw (quiet r h u) (stands.sizes r h));
        lanes = λ f g h i ne. rw (append-nil (sent f g), posts f g h, takes g f i) (stands.lanes f g h i ne);
      }

  module _ (from to : ℕ) (l : from < ranks) (m : to < ranks) (apart : from ≢ to) where
    pub moves : (tag : Tag) (slot into : ℕ) → IsSound ranks outline shut (act_is.Move from to tag slot into) → DoTheirHalves (act_is.Move from to tag slot into) → GoToOne ((c1 to).taken from) ((c1 from).posted to) → StandAfter (act_is.Move from to tag slot into)
    moves tag slot into sound does meet =
        let a : Act = act_is.Move from to tag slot into in
        let k = (first_below 256 into [] (first_below 256 slot (into ∷ []) sound.slots_exist).1).0 in
        let there = some_shape (outline from slot) sound.filled in
        let some : IsSome (state from slot) = some_by_shape (outline from slot) (state from slot) (measured from slot) sound.filled in
        let t1 : (from == from) ≡ true = grind (arith, nat_tests) in
        let t2 : (to == to) ≡ true = grind (arith, nat_tests) in
        let t3 : (from == to) ≡ false = grind (arith, nat_tests) in
        let theirs : halves_of outline a from ≡ half_is.Post to tag slot ∷ [] = rw t1 refl in
        let mine : halves_of outline a to ≡ half_is.Take from tag into there.0 ∷ [] = rw (t3, t2) (ap (take_of from tag into) there.1) in
        let post = only_half s from (halves_of outline a from) (half_is.Post to tag slot) (c from) (c1 from) theirs (does from l) in
        let take = only_half s to (halves_of outline a to) (half_is.Take from tag into there.0) (c to) (c1 to) mine (does to m) in
        let y : Letter Sparse = record { from = from; to = to; number = length ((c from).posted to); tag = tag; body = post.0 } in
        let x : Letter Sparse = take.0 in
        let quiet : (r : ℕ) → r < ranks → (from == r) ≡ false → (to == r) ≡ false → c1 r ≡ c r = λ r h u v. no_half s r (halves_of outline a r) (c r) (c1 r) (rw (u, v) refl) (does r h) in
        let passes : IsHandedOver ranks c c1 from to y x = record {
          from_posts = λ j. ap (λ (z : Course). z.posted j) post.2;
          from_takes = λ j. ap (λ (z : Course). z.taken j) post.2;
          to_takes = λ j. ap (λ (z : Course). z.taken j) take.3;
          to_posts = λ j. ap (λ (z : Course). z.posted j) take.3;
          others = quiet;
        } in
        let w : Tag × Cargo Sparse = (tag, Sheet (state from slot)) in
        let same : x ≡ y = same_letter refs ranks state sent c c1 from to l m apart w y x stands passes meet in
        let body : IsBodyOf refs (Sheet (state from slot)) post.0 = copied_by_end refs from (state from slot) (slot_at (c from).slots slot) post.0 (c from).refusals (c1 from).refusals (counts from l) some (stands.slots from slot l) post.1 in
        let right : IsLetterFor refs from to w (length ((c from).posted to)) y = record { addressed = record { sender = refl; addressee = refl; numbered = refl }; tagged = refl; carries = body } in
        let set : (c1 to).slots ≡ slice_set (c to).slots into (slot_of_body x.body) = ap (λ (z : Course). z.slots) take.3 in
        let left : IsSlotOf refs (state from slot) (slot_of_body x.body) = subst (λ (z : Letter Sparse). IsSlotOf refs (state from slot) (slot_of_body z.body)) (sym same) (arrived_slot refs (state from slot) post.0 body) in
        let kept : (r : ℕ) → r < ranks → (to == r) ≡ false → (c1 r).slots ≡ (c r).slots = λ r h u. split (from == r)
        (λ v. let e : r ≡ from = grind (arith, nat_tests) in rw e (ap (λ (z : Course). z.slots) post.2))
        (λ v. ap (λ (z : Course). z.slots) (quiet r h v u)) in
        record {
          slots = λ r n h. split (to == r)
              (λ u.
              let e : r ≡ to = grind (arith, nat_tests) in
              rw e (set_stands refs (c to).slots (c1 to).slots (state to) (act (matrices s) a state to) into (state from slot) (slot_of_body x.body) (stands.sizes to m) k set (λ j. stands.slots to j m) (λ j. rw t2 refl) left n))
              (λ u. rw (u, kept r h u) (stands.slots r n h));
          sizes = λ r h. split (to == r)
              (λ u. let e : r ≡ to = grind (arith, nat_tests) in rw e (ap length {y = slice_set (c to).slots into (slot_of_body x.body)} set ∙ length-set (c to).slots into (slot_of_body x.body) ∙ stands.sizes to m))
              (λ u. rw (kept r h u) (stands.sizes r h));
          lanes = lanes_pass refs ranks state sent c c1 from to l m apart w y x stands passes same right;
        }

    pub shuts : IsSound ranks outline shut (act_is.Shut from to) → DoTheirHalves (act_is.Shut from to) → GoToOne ((c1 to).taken from) ((c1 from).posted to) → StandAfter (act_is.Shut from to)
    shuts sound does meet =
        let a : Act = act_is.Shut from to in
        let t1 : (from == from) ≡ true = grind (arith, nat_tests) in
        let t2 : (to == to) ≡ true = grind (arith, nat_tests) in
        let t3 : (from == to) ≡ false = grind (arith, nat_tests) in
        let theirs : halves_of outline a from ≡ half_is.Shut to ∷ [] = rw t1 refl in
        let mine : halves_of outline a to ≡ half_is.End from ∷ [] = rw (t3, t2) refl in
        let post = only_half s from (halves_of outline a from) (half_is.Shut to) (c from) (c1 from) theirs (does from l) in
        let take = only_half s to (halves_of outline a to) (half_is.End from) (c to) (c1 to) mine (does to m) in
        let y : Letter Sparse = record { from = from; to = to; number = length ((c from).posted to); tag = mark_tag; body = body_is.Close } in
        let x : Letter Sparse = take.0 in
        let quiet : (r : ℕ) → r < ranks → (from == r) ≡ false → (to == r) ≡ false → c1 r ≡ c r = λ r h u v. no_half s r (halves_of outline a r) (c r) (c1 r) (rw (u, v) refl) (does r h) in
        let passes : IsHandedOver ranks c c1 from to y x = record {
          from_posts = λ j. ap (λ (z : Course). z.posted j) post;
          from_takes = λ j. ap (λ (z : Course). z.taken j) post;
          to_takes = λ j. ap (λ (z : Course). z.taken j) take.3;
          to_posts = λ j. ap (λ (z : Course). z.posted j) take.3;
          others = quiet;
        } in
        let w : Tag × Cargo Sparse = (mark_tag, Mark) in
        let same : x ≡ y = same_letter refs ranks state sent c c1 from to l m apart w y x stands passes meet in
        let right : IsLetterFor refs from to w (length ((c from).posted to)) y = record { addressed = record { sender = refl; addressee = refl; numbered = refl }; tagged = refl; carries = refl } in
        let kept : (r : ℕ) → r < ranks → (c1 r).slots ≡ (c r).slots = λ r h. split (from == r)
        (λ v. let e : r ≡ from = grind (arith, nat_tests) in rw e (ap (λ (z : Course). z.slots) post))
        (λ v. split (to == r)
        (λ u. let e : r ≡ to = grind (arith, nat_tests) in rw e (ap (λ (z : Course). z.slots) take.3))
        (λ u. ap (λ (z : Course). z.slots) (quiet r h v u))) in
        record {
          slots = λ r n h. rw (kept r h) (stands.slots r n h);
          sizes = λ r h. rw (kept r h) (stands.sizes r h);
          lanes = lanes_pass refs ranks state sent c c1 from to l m apart w y x stands passes same right;
        }

  apart_of : (from to : ℕ) → (from == to) ≡ false → from ≢ to
  apart_of from to e = grind (arith, nat_tests)

  -- the same for each kind of act
  pub acts_stand : (a : Act) → IsSound ranks outline shut a → DoTheirHalves a → ((f t : ℕ) → f < ranks → t < ranks → f ≢ t → GoToOne ((c1 t).taken f) ((c1 f).posted t)) → StandAfter a
  acts_stand (act_is.Move from to tag slot into) sound does meet =
      let one = first_below ranks from (to ∷ []) sound.ranks_exist in
      let two = first_below ranks to [] one.1 in
      let f : (from == to) ≡ false = let z = sound.apart in grind (arith, nat_tests) in
      let apart = apart_of from to f in
      moves from to one.0 two.0 apart tag slot into sound does (meet from to one.0 two.0 apart)
  acts_stand (act_is.Work rank op) sound does meet = works rank op sound does
  acts_stand (act_is.Shut from to) sound does meet =
      let one = first_below ranks from (to ∷ []) sound.ranks_exist in
      let two = first_below ranks to [] one.1 in
      let f : (from == to) ≡ false = let z = sound.apart in grind (arith, nat_tests) in
      let apart = apart_of from to f in
      shuts from to one.0 two.0 apart sound does (meet from to one.0 two.0 apart)
