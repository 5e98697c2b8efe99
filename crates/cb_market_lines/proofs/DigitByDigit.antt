-- The number that digits write, digit by digit.
use Rattle.std.proofs.Common.{◌≡◌, ℕ, ◌+◌, ◌-◌, ◌*◌, ◌≤◌, ◌<◌, ◌^◌, List, [], ◌∷◌, Some, None, arith, false, length, get_or, sym, subst}
use Rattle.std.proofs.lemmas.Bool.Decides.{nat_tests}
use Rattle.cb_market_lines.specs.Lines.{number_from, number, is_digit}
use Rattle.cb_market_lines.specs.Cursor.{if_small, front_digits}

pub number_from-le : (ds : List ℕ) (n : ℕ) → n ≤ number_from n ds
number_from-le [] n = omega arith
number_from-le (c ∷ ds) n = omega (arith, number_from-le ds (n * 10 + (c - 48)))

-- a number below 2^64 fits
pub if_small_fits : (n : ℕ) → n < 2 ^ 64 → if_small n ≡ Some n
if_small_fits n h = grind (arith, nat_tests)

pub if_small_over : (n m : ℕ) → if_small n ≡ None → n ≤ m → if_small m ≡ None
if_small_over n m e h = grind (arith, nat_tests)

-- one digit too many
pub too_many : (n : ℕ) (ds all : List ℕ) (c : ℕ) → if_small (n * 10 + (c - 48)) ≡ None → number_from (n * 10 + (c - 48)) ds ≡ number all → if_small (number all) ≡ None
too_many n ds all c e h = if_small_over (n * 10 + (c - 48)) (number all) e (omega (arith, h, number_from-le ds (n * 10 + (c - 48))))

-- no digit is left
pub small_here : (n all : ℕ) → n < 2 ^ 64 → n ≡ all → Some n ≡ if_small all
small_here n all h k = subst (λ (m : ℕ). Some n ≡ if_small m) k (sym (if_small_fits n h))

-- at the end of the text, the number so far is the whole number, and fits
pub small_at_end : (rest : List ℕ) (n all : ℕ) → length rest < 1 → n < 2 ^ 64 → number_from n (front_digits rest) ≡ all → Some n ≡ if_small all
small_at_end [] n all e h k = small_here n all h k
small_at_end (c ∷ rest) n all e h k = absurd (omega arith)

-- at a byte that isn't a digit, the number so far is the whole number, and fits
pub small_at_other : (rest : List ℕ) (n all : ℕ) → is_digit (get_or rest 0 0) ≡ false → n < 2 ^ 64 → number_from n (front_digits rest) ≡ all → Some n ≡ if_small all
small_at_other [] n all e h k = small_here n all h k
small_at_other (c ∷ rest) n all e h k = small_here n all h (rw e at k)
