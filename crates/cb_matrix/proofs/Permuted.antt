-- A sum is that of the same values in another order.
use Rattle.std.proofs.Common.{◌≡◌, ℕ, zero, suc, ◌<◌, List, [], ◌∷◌, length, map, get_or, set, sym, refl, ap, ◌∙◌, arith}
use Rattle.std.specs.Prelude.{All, IsPermutation}
use Rattle.std.specs.List as holes
use Rattle.std.proofs.lemmas.List.Elements.{All-head, All-tail, All-cons, All-nil, All-set, All-get_or}
use Rattle.std.proofs.lemmas.List.Sorted.{IsPermutation-keeps}
use Rattle.cb_semirings.specs.Arithmetic.{Arithmetic, IsValue, IsSemiring}
use Rattle.cb_matrix.specs.Values.{total}
use Rattle.cb_matrix.proofs.Totals.{total_value}

module _ (s : Arithmetic) (laws : IsSemiring s) where
  -- the first two of three summands change places
  pub swap_two : (x y z : ℕ) → IsValue s x → IsValue s y → IsValue s z → s.add x (s.add y z) ≡ s.add y (s.add x z)
  swap_two x y z hx hy hz = sym (laws.add_assoc x y z hx hy hz) ∙ ap (λ n. s.add n z) (laws.add_comm x y hx hy) ∙ laws.add_assoc y x z hy hx hz

  module _ {X : Type 0} (f : X → ℕ) where
    abbrev Val : X → Type 0
    Val x = IsValue s (f x)

    abbrev sum_of : List X → ℕ
    sum_of xs = total s (map f xs)

    map_values : (xs : List X) → All Val xs → All (IsValue s) (map f xs)
    map_values [] h = All-nil (IsValue s)
    map_values (x ∷ xs) h = All-cons (IsValue s) (f x) (map f xs) (All-head Val x xs h) (map_values xs (All-tail Val x xs h))

    -- a sum over a list is a value
    pub sum_value : (xs : List X) → All Val xs → IsValue s (sum_of xs)
    sum_value xs h = total_value s laws (map f xs) (map_values xs h)

    -- one element against one of the list
    exchange : (x : X) (xs : List X) (j : ℕ) (d : X) → Val x → All Val xs → j < length xs → s.add (f (get_or xs j d)) (sum_of (set xs j x)) ≡ s.add (f x) (sum_of xs)
    unfolding total
    exchange x [] j d v h l = absurd (omega arith)
    exchange x (y ∷ ys) zero d v h l = swap_two (f y) (f x) (sum_of ys) (All-head Val y ys h) v (sum_value ys (All-tail Val y ys h))
    exchange x (y ∷ ys) (suc j) d v h l =
        let t = All-tail Val y ys h in
        let hy = All-head Val y ys h in
        let there : Val (get_or ys j d) = All-get_or Val ys j d (omega arith) t in
        swap_two (f (get_or ys j d)) (f y) (sum_of (set ys j x)) there hy (sum_value (set ys j x) (All-set Val ys j x v t))
        ∙ ap (s.add (f y)) (exchange x ys j d v t (omega arith))
        ∙ swap_two (f y) (f x) (sum_of ys) hy v (sum_value ys t)

    exchange_two : (xs : List X) (i j : ℕ) (d : X) → All Val xs → i < length xs → j < length xs → sum_of (set (set xs i (get_or xs j d)) j (get_or xs i d)) ≡ sum_of xs
    unfolding total
    exchange_two [] i j d h l m = absurd (omega arith)
    exchange_two (x ∷ xs) zero zero d h l m = refl
    exchange_two (x ∷ xs) zero (suc j) d h l m = exchange x xs j d (All-head Val x xs h) (All-tail Val x xs h) (omega arith)
    exchange_two (x ∷ xs) (suc i) zero d h l m = exchange x xs i d (All-head Val x xs h) (All-tail Val x xs h) (omega arith)
    exchange_two (x ∷ xs) (suc i) (suc j) d h l m = ap (s.add (f x)) (exchange_two xs i j d (All-tail Val x xs h) (omega arith) (omega arith))

    swapped_sum : (xs : List X) (i j : ℕ) → All Val xs → i < length xs → j < length xs → sum_of (holes.swap xs i j) ≡ sum_of xs
    swapped_sum [] i j h l m = refl
    swapped_sum (x ∷ xs) i j h l m = exchange_two (x ∷ xs) i j x h l m

    swapped_values : (xs : List X) (i j : ℕ) → All Val xs → i < length xs → j < length xs → All Val (holes.swap xs i j)
    swapped_values [] i j h l m = h
    swapped_values (x ∷ xs) i j h l m = All-set Val (set (x ∷ xs) i (get_or (x ∷ xs) j x)) j (get_or (x ∷ xs) i x) (All-get_or Val (x ∷ xs) i x l h) (All-set Val (x ∷ xs) i (get_or (x ∷ xs) j x) (All-get_or Val (x ∷ xs) j x m h) h)

    -- lists with the same elements in another order have one sum
    pub sum-permutation : (xs ys : List X) → IsPermutation xs ys → All Val xs → sum_of ys ≡ sum_of xs
    sum-permutation xs ys moved h =
        (IsPermutation-keeps xs (λ l. All Val l × (sum_of l ≡ sum_of xs)) (h, refl) (λ l i j p q k. (swapped_values l i j k.0 p q, swapped_sum l i j k.0 p q ∙ k.1)) ys moved).1
