-- How lanes stand: what implementations of ports have to show, and what their users may conclude.
use Rattle.std.proofs.Common.{ℕ, ◌≡◌, Bool, true, false, None, refl, arith}
use Rattle.std.proofs.lemmas.Grind.{common_steps}
use Rattle.cb_letters.specs.Standing.{Standing, standing_refusal}

standing_of : ℕ → Bool → Bool → ℕ → Standing
standing_of sender is_stranger is_closed posted = record { sender = sender; is_stranger = is_stranger; is_closed = is_closed; posted = posted }

-- lanes that agree in every field stand the same
pub same_standing : (s t : Standing) → s.sender ≡ t.sender → s.is_stranger ≡ t.is_stranger → s.is_closed ≡ t.is_closed → s.posted ≡ t.posted → s ≡ t
unfolding standing_of
same_standing s t e f g h = same s.sender t.sender s.is_stranger t.is_stranger s.is_closed t.is_closed s.posted t.posted e f g h
  where
    same : (a a' : ℕ) (b b' c c' : Bool) (d d' : ℕ) → a ≡ a' → b ≡ b' → c ≡ c' → d ≡ d' → standing_of a b c d ≡ standing_of a' b' c' d'
    same a a' b b' c c' d d' e f g h = cc

-- if nothing refuses a post, there is such a lane
pub not_stranger : (s : Standing) → standing_refusal s ≡ None → s.is_stranger ≡ false
not_stranger s e = by_cases s.is_stranger refl
  where
    by_cases : (b : Bool) → s.is_stranger ≡ b → s.is_stranger ≡ false
    by_cases true f = absurd (grind (arith, common_steps, e, f))
    by_cases false f = f

-- if nothing refuses a post, the lane is open
pub not_closed : (s : Standing) → standing_refusal s ≡ None → s.is_closed ≡ false
not_closed s e = by_cases s.is_closed refl
  where
    by_cases : (b : Bool) → s.is_closed ≡ b → s.is_closed ≡ false
    by_cases true f = let known = not_stranger s e in absurd (grind (arith, common_steps, e, f, known))
    by_cases false f = f
