-- A sum over numbers in two parts, as the stages of a product by blocks have it.
use Rattle.std.proofs.Common.{◌≡◌, ℕ, zero, suc, ◌+◌, ◌∷◌, ◌++◌, map, refl, ap, ◌∙◌, arith}
use Rattle.std.specs.List.{range_with_len}
use Rattle.std.proofs.lemmas.List.{map-append}
use Rattle.cb_semirings.specs.Arithmetic.{Arithmetic, IsValue, IsSemiring}
use Rattle.cb_matrix.specs.Values.{total}
use Rattle.cb_matrix.proofs.Totals.{total-append, each_value}

-- numbers in a row, in two parts
pub range_parts : (a m n : ℕ) → range_with_len a (m + n) ≡ range_with_len a m ++ range_with_len (a + m) n
range_parts a zero n = let e : zero + n ≡ n = omega arith in let f : a + zero ≡ a = omega arith in rw (e, f) refl
range_parts a (suc m) n =
    let e : suc m + n ≡ suc (m + n) = omega arith in
    let f : a + suc m ≡ (a + 1) + m = omega arith in
    rw (e, f) (ap (λ ks. a ∷ ks) (range_parts (a + 1) m n))

-- and from a later one on
pub shifted : (f : ℕ → ℕ) (m a n : ℕ) → map f (range_with_len (m + a) n) ≡ map (λ k. f (m + k)) (range_with_len a n)
shifted f m a zero = refl
shifted f m a (suc n) = let e : (m + a) + 1 ≡ m + (a + 1) = omega arith in rw e (ap (λ ks. f (m + a) ∷ ks) (shifted f m (a + 1) n))

-- the sum of m values and then n more
pub total_parts : (s : Arithmetic) → IsSemiring s → (f : ℕ → ℕ) → ((k : ℕ) → IsValue s (f k)) → (m n : ℕ) → total s (map f (range_with_len 0 (m + n))) ≡ s.add (total s (map f (range_with_len 0 m))) (total s (map (λ k. f (m + k)) (range_with_len 0 n)))
total_parts s laws f v m n =
    let start : zero + m ≡ m + zero = omega arith in
    ap (λ ks. total s (map f ks)) (range_parts 0 m n)
    ∙ ap (total s) (map-append f (range_with_len 0 m) (range_with_len (0 + m) n))
    ∙ total-append s laws (map f (range_with_len 0 m)) (map f (range_with_len (0 + m) n)) (each_value s laws f v (range_with_len 0 m)) (each_value s laws f v (range_with_len (0 + m) n))
    ∙ ap (λ ks. s.add (total s (map f (range_with_len 0 m))) (total s ks)) (ap (λ a. map f (range_with_len a n)) start ∙ shifted f m 0 n)
