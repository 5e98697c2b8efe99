-- Where the parts of a dimension begin.
use Rattle.std.proofs.Common.{◌≡◌, ℕ, zero, suc, ◌+◌, ◌*◌, ◌/◌, ◌%◌, ◌<◌, ◌≤◌, ◌∷◌, map, min, refl, ap, ◌∙◌, arith}
use Rattle.std.specs.List.{range_with_len}
use Rattle.std.specs.Int.{div_ceil}
use Rattle.std.proofs.lemmas.Nat.{mod_below}
use Rattle.std.proofs.Math.Nat.{add-mul, one-mul, div-add-mod, mul-add}
use Rattle.cb_grid.specs.Parts.{part_start}

-- the first part begins at 0
pub start_zero : (q d : ℕ) → part_start q d 0 ≡ 0
start_zero q d = omega arith

-- no part begins before the one before it
pub start_rises : (q d i : ℕ) → part_start q d i ≤ part_start q d (i + 1)
start_rises q d i = let e : (i + 1) * div_ceil d q ≡ i * div_ceil d q + div_ceil d q = add-mul i 1 (div_ceil d q) ∙ ap (λ x. i * div_ceil d q + x) (one-mul (div_ceil d q)) in omega arith

-- each part begins inside the dimension, or at its end
pub start_within : (q d i : ℕ) → part_start q d i ≤ d
start_within q d i = omega arith

rest : (x q : ℕ) → x < q → x ≤ q * min 1 x
rest zero q l = omega arith
rest (suc x) q l = let e : min 1 (suc x) ≡ 1 = omega arith in rw e (omega arith)

-- the last part ends with the dimension
pub start_last : (q d : ℕ) → 0 < q → part_start q d q ≡ d
start_last q d pos =
    let whole : q * (d / q) + d % q ≡ d = div-add-mod d q in
    let below : d % q < q = mod_below d q pos in
    let e : q * (d / q + min 1 (d % q)) ≡ q * (d / q) + q * min 1 (d % q) = mul-add q (d / q) (min 1 (d % q)) in
    let f : d % q ≤ q * min 1 (d % q) = rest (d % q) q below in
    omega arith

-- values that agree below a number have one sum
pub map_below : (f g : ℕ → ℕ) (a n : ℕ) → ((k : ℕ) → a ≤ k → k < a + n → f k ≡ g k) → map f (range_with_len a n) ≡ map g (range_with_len a n)
map_below f g a zero h = refl
map_below f g a (suc n) h = ap (λ x. x ∷ map f (range_with_len (a + 1) n)) (h a (omega arith) (omega arith)) ∙ ap (λ xs. g a ∷ xs) (map_below f g (a + 1) n (λ k l m. h k (omega arith) (omega arith)))
