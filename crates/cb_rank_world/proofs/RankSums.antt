-- Sums over the ranks of a world.
use Rattle.std.proofs.Common.{◌≡◌, ℕ, zero, suc, ◌+◌, ◌*◌, ◌<◌, ◌≤◌, List, [], ◌∷◌, length, refl, ◌∙◌, arith}
use Rattle.std.specs.Prelude.{get_or, slice_set, sum_by}
use Rattle.std.proofs.lemmas.List.Sums.{sum_by-cons}

-- a sum is zero if each of its numbers is
pub sum_is_none : {X : Type 0} (f : X → ℕ) (d : X) (xs : List X) → ((i : ℕ) → i < length xs → f (get_or xs i d) ≡ 0) → sum_by f xs ≡ 0
sum_is_none f d [] h = refl
sum_is_none f d (x ∷ xs) h =
    let here : f x ≡ 0 = h 0 (omega arith) in
    let rest = sum_is_none f d xs (λ i l. h (suc i) (omega arith)) in
    sum_by-cons f x xs ∙ rw (here, rest) refl

-- if a sum is zero, so is each of its numbers
pub none_of_sum : {X : Type 0} (f : X → ℕ) (d : X) (xs : List X) → sum_by f xs ≡ 0 → (i : ℕ) → i < length xs → f (get_or xs i d) ≡ 0
none_of_sum f d [] e i l = absurd (omega arith)
none_of_sum f d (x ∷ xs) e zero l = let c = sum_by-cons f x xs in omega arith
none_of_sum f d (x ∷ xs) e (suc i) l = let c = sum_by-cons f x xs in none_of_sum f d xs (omega arith) i (omega arith)

-- one number of a sum has changed
pub sum_of_set : {X : Type 0} (f : X → ℕ) (d y : X) (xs : List X) (i : ℕ) → i < length xs → sum_by f (slice_set xs i y) + f (get_or xs i d) ≡ sum_by f xs + f y
sum_of_set f d y [] i l = absurd (omega arith)
sum_of_set f d y (x ∷ xs) zero l = let a = sum_by-cons f x xs in let b = sum_by-cons f y xs in omega arith
sum_of_set f d y (x ∷ xs) (suc i) l =
    let a = sum_by-cons f x xs in
    let b = sum_by-cons f x (slice_set xs i y) in
    let c = sum_of_set f d y xs i (omega arith) in
    omega arith

-- a sum of small numbers is small
pub sum_is_below : {X : Type 0} (f : X → ℕ) (d : X) (limit : ℕ) (xs : List X) → ((i : ℕ) → i < length xs → f (get_or xs i d) ≤ limit) → sum_by f xs ≤ length xs * limit
sum_is_below f d limit [] h = omega arith
sum_is_below f d limit (x ∷ xs) h =
    let here : f x ≤ limit = h 0 (omega arith) in
    let rest = sum_is_below f d limit xs (λ i l. h (suc i) (omega arith)) in
    let c = sum_by-cons f x xs in
    grind arith
