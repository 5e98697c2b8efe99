-- A lane stays one as letters are posted and taken.
use Rattle.std.proofs.Common.{◌≡◌, ℕ, zero, suc, ◌+◌, ◌<◌, ◌≤◌, Bool, true, false, if◌then◌else◌, ◌||◌, List, [], ◌∷◌, ◌++◌, length, drop, min, slice_index_or, refl, sym, ◌∙◌, ap, subst, arith, length-append, ⊎_elim}
use Rattle.std.proofs.lemmas.Grind.{common_steps, get_or_after_one}
use Rattle.std.proofs.lemmas.List.{get_or_append_left}
use Rattle.std.proofs.lemmas.Bool.{cases_lt}
use Rattle.std.proofs.Math.Seq.{get_or-append_seam}
use Rattle.cb_letters.specs.declared.Letter.{Letter}
use Rattle.cb_letters.specs.declared.Taken.TheVariants as Answers
use Rattle.cb_letters.specs.Letters.{is_close}
use Rattle.cb_letters.specs.Posted.{ends_closed, NothingAfterClose}
use Rattle.cb_letters.specs.Lane.{Lane, IsLane, IsAddressed, new_lane, append, after_take, posted, take_answer, answer_at}
use Rattle.cb_letters.proofs.Marks.{ends_closed-append, NothingAfterClose-append}

or_false : (a b : Bool) → a ≡ false → (a || b) ≡ b
or_false true b e = absurd (let wrong : true ≡ false = e in cc)
or_false false b e = refl

module _ {P : Type 0} where
  -- a lane on which nothing was posted is one
  pub IsLane-new : (from to capacity : ℕ) → IsLane {P = P} from to (new_lane capacity)
  IsLane-new from to capacity = record {
    letters = (λ k d below. absurd (omega arith));
    mark = (λ k below. absurd (omega arith));
    closed = (λ some. absurd (omega arith));
  }

  not_yet : (from to : ℕ) (l : Lane P) → IsLane from to l → l.closed ≡ false → ends_closed l.queue ≡ false
  not_yet from to l h e = by_cases l.queue refl
    where
      by_cases : (q : List (Letter P)) → l.queue ≡ q → ends_closed l.queue ≡ false
      by_cases [] f = ap ends_closed f
      by_cases (x ∷ xs) f = let some : 0 < length l.queue = rw f (omega arith) in sym (h.closed some) ∙ e

  -- an open lane stays one as a letter with its next number is posted
  pub IsLane-append : (from to : ℕ) (l : Lane P) (x : Letter P) → IsLane from to l → l.closed ≡ false → IsAddressed from to (posted l) x → IsLane from to (append l x)
  IsLane-append from to l x h e new = record {
    letters = (λ k d below. at_place k d below);
    mark = NothingAfterClose-append l.queue x h.mark (not_yet from to l h e);
    closed = (λ some. or_false l.closed (is_close x.body) e ∙ sym (ends_closed-append l.queue x));
  }
    where
      at_place : (k : ℕ) (d : Letter P) → k < length (l.queue ++ x ∷ []) → IsAddressed from to (l.taken + k) (slice_index_or (l.queue ++ x ∷ []) k d)
      at_place k d below =
          ⊎_elim
          (λ (before : k < length l.queue). subst (λ y. IsAddressed from to (l.taken + k) y) (sym (get_or_append_left l.queue (x ∷ []) d k before)) (h.letters k d before))
          (λ (past : length l.queue ≤ k).
          let size = length-append l.queue (x ∷ []) in
          let last : length l.queue ≡ k = omega arith in
          subst (λ n. IsAddressed from to (l.taken + n) (slice_index_or (l.queue ++ x ∷ []) n d)) last
          (subst (λ y. IsAddressed from to (posted l) y) (sym (get_or-append_seam l.queue x [] d)) new))
          (cases_lt k (length l.queue))

  drop_mark : (q : List (Letter P)) → NothingAfterClose q → NothingAfterClose (drop 1 q)
  drop_mark [] h k below = h k below
  drop_mark (x ∷ xs) h zero below = refl
  drop_mark (x ∷ (y ∷ ys)) h (suc k) below = h (suc (suc k)) (omega arith)
  drop_mark (x ∷ []) h (suc k) below = absurd (omega arith)

  drop_closed : (q : List (Letter P)) → 0 < length (drop 1 q) → ends_closed q ≡ ends_closed (drop 1 q)
  drop_closed [] some = refl
  drop_closed (x ∷ []) some = absurd (omega arith)
  drop_closed (x ∷ (y ∷ ys)) some = refl

  -- a lane stays one as its oldest letter is taken
  pub IsLane-take : (from to : ℕ) (l : Lane P) → IsLane from to l → IsLane from to (after_take l)
  IsLane-take from to l h = record {
    letters = (λ k d below. at_place k d below);
    mark = drop_mark l.queue h.mark;
    closed = (λ some. let more : 0 < length l.queue = grind (arith, common_steps, some) in h.closed more ∙ drop_closed l.queue some);
  }
    where
      at_place : (k : ℕ) (d : Letter P) → k < length (drop 1 l.queue) → IsAddressed from to ((after_take l).taken + k) (slice_index_or (drop 1 l.queue) k d)
      at_place k d below =
          let some : 1 + k < length l.queue = grind (arith, common_steps, below) in
          let place : l.taken + (1 + k) ≡ l.taken + min 1 (length l.queue) + k = omega arith in
          rw get_or_after_one (subst (λ n. IsAddressed from to n (slice_index_or l.queue (1 + k) d)) place (h.letters (1 + k) d some))

  -- a take returns the letter with the next number to be taken
  pub IsAddressed-take : (from to : ℕ) (l : Lane P) (x : Letter P) → IsLane from to l → take_answer l ≡ Answers.Letter x → IsAddressed from to l.taken x
  IsAddressed-take from to l x h e = by_cases l.closed l.queue (λ k d below. h.letters k d below) e
    where
      by_body : (closes : Bool) (y : Letter P) → IsAddressed from to l.taken y → (if closes then Answers.End else Answers.Letter y) ≡ Answers.Letter x → IsAddressed from to l.taken x
      by_body true y new f = absurd cc
      by_body false y new f = let same : y ≡ x = cc in subst (λ z. IsAddressed from to l.taken z) same new

      by_cases : (closed : Bool) (q : List (Letter P)) → ((k : ℕ) (d : Letter P) → k < length q → IsAddressed from to (l.taken + k) (slice_index_or q k d)) → answer_at closed q ≡ Answers.Letter x → IsAddressed from to l.taken x
      by_cases true [] new f = absurd cc
      by_cases false [] new f = absurd cc
      by_cases true (y ∷ ys) new f = by_body (is_close y.body) y (subst (λ n. IsAddressed from to n y) (omega arith) (new 0 y (omega arith))) f
      by_cases false (y ∷ ys) new f = by_body (is_close y.body) y (subst (λ n. IsAddressed from to n y) (omega arith) (new 0 y (omega arith))) f
