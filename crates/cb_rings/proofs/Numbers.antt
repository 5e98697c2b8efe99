-- The numbers of the letters that were taken, with one more letter.
use Rattle.std.proofs.Common.{ℕ, ◌≡◌, ◌+◌, ◌<◌, ◌≤◌, true, List, [], ◌∷◌, ◌++◌, length, slice_index_or, subst, arith, length-append, ⊎_elim}
use Rattle.std.proofs.lemmas.Bool.{cases_lt}
use Rattle.std.proofs.lemmas.List.{get_or_append_left}
use Rattle.std.proofs.Math.Seq.{get_or-append_seam}
use Rattle.cb_letters.specs.declared.Letter.{Letter}
use Rattle.cb_letters.specs.Letters.{is_close}
use Rattle.cb_rings.specs.Numbers.{IsNext, AreNumbered}

module _ {P : Type 0} where
  -- numbered letters, followed by one that may follow them, are numbered
  pub AreNumbered-append : (xs : List (Letter P)) (x : Letter P) → AreNumbered xs → IsNext xs x → AreNumbered (xs ++ x ∷ [])
  AreNumbered-append xs x h next k d below =
      let Q : ℕ → Type 0 = λ (m : ℕ). ((slice_index_or (xs ++ x ∷ []) m d).number ≡ m) × (is_close (slice_index_or (xs ++ x ∷ []) m d).body ≡ true → (slice_index_or (xs ++ x ∷ []) m d).tag.0 ≡ 0) in
      let under : k < length xs + 1 = omega (arith, length-append xs (x ∷ [])) in
      ⊎_elim
      (λ (before : k < length xs). rw (get_or_append_left xs (x ∷ []) d k before) (h k d before))
      (λ (past : length xs ≤ k).
      let at_end : length xs ≡ k = omega arith in
      subst Q at_end (rw (get_or-append_seam xs x [] d) (next.0, next.2)))
      (cases_lt k (length xs))
