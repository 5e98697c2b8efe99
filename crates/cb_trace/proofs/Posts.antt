-- Where letters were posted.
use Rattle.std.proofs.Common.{◌≡◌, ℕ, ◌<◌, List, [], ◌∷◌, ◌++◌, length, Some, ◌⊎◌, inl, inr, sym, ◌∙◌, ap}
use Rattle.std.proofs.lemmas.Option.{slice_get_within}
use Rattle.cb_letters.specs.declared.Letter.{Letter}
use Rattle.cb_letters.specs.Events.{Event, Sent}
use Rattle.cb_trace.specs.Ends.{IsPost}
use Rattle.cb_trace.proofs.Appended.{slice_get-append, slice_get-last, slice_get-push}

module _ {P : Type 0} where
  -- a post stays at its place as events follow
  pub IsPost-kept : (past es : List (Event P)) (f t p n : ℕ) → IsPost past f t p n → IsPost (past ++ es) f t p n
  IsPost-kept past es f t p n h = record { letter = h.letter; found = slice_get-append past es p (Sent f t h.letter) h.found; numbered = h.numbered }

  -- the post that is the last event
  pub IsPost-last : (past : List (Event P)) (f t n : ℕ) (x : Letter P) → x.number ≡ n → IsPost (past ++ Sent f t x ∷ []) f t (length past) n
  IsPost-last past f t n x e = record { letter = x; found = slice_get-last past (Sent f t x); numbered = e }

  -- a post was there before the last event, or is it
  pub IsPost-push : (past : List (Event P)) (e : Event P) (f t p n : ℕ) → IsPost (past ++ e ∷ []) f t p n
      → IsPost past f t p n ⊎ ((p ≡ length past) × ((x : Letter P) × (e ≡ Sent f t x) × (x.number ≡ n)))
  IsPost-push past e f t p n h =
      elim (slice_get-push past e p (Sent f t h.letter) h.found)
      [ inl k ↦ inl (record { letter = h.letter; found = k; numbered = h.numbered }) | inr k ↦ inr (k.0, (h.letter, k.1, h.numbered)) ]

  -- the place of a post is the place of an event
  pub IsPost-within : (past : List (Event P)) (f t p n : ℕ) → IsPost past f t p n → p < length past
  IsPost-within past f t p n h = slice_get_within past p (Sent f t h.letter) h.found

  -- there is only one letter at a place, of one lane
  pub IsPost-unique : (past : List (Event P)) (f t g u p n m : ℕ) → IsPost past f t p n → IsPost past g u p m → (f ≡ g) × (t ≡ u) × (n ≡ m)
  IsPost-unique past f t g u p n m h k =
      let same : Some (Sent f t h.letter) ≡ Some (Sent g u k.letter) = sym h.found ∙ k.found in
      let one : h.letter ≡ k.letter = cc in
      (cc, cc, sym h.numbered ∙ ap (λ (x : Letter P). x.number) one ∙ k.numbered)
