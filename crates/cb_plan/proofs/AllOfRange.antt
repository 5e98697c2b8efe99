-- A loop that looks whether a test holds of all numbers of a range.
use Rattle.std.proofs.Common.{◌≡◌, ℕ, suc, ◌+◌, ◌-◌, ◌<◌, Bool, true, false, refl, sym, ap, ◌∙◌, arith}
use Rattle.std.specs.Prelude.{◌&&◌}
use Rattle.std.specs.List.{range_with_len}
use Rattle.cb_plan.specs.Checks.{all_hold}

first_holds : (f : ℕ → Bool) (a n : ℕ) → a < n → all_hold f (range_with_len a (n - a)) ≡ (f a && all_hold f (range_with_len (a + 1) (n - (a + 1))))
first_holds f a n l = let e : n - a ≡ suc (n - (a + 1)) = omega arith in rw e refl

-- if the test holds of the first number of a range, it holds of all if and only if it holds of all others
pub next_holds : (f : ℕ → Bool) (a n : ℕ) (x : Bool) → a < n → f a ≡ true → all_hold f (range_with_len a (n - a)) ≡ x → all_hold f (range_with_len (a + 1) (n - (a + 1))) ≡ x
next_holds f a n x l t h = ap (λ b. b && all_hold f (range_with_len (a + 1) (n - (a + 1)))) (sym t) ∙ sym (first_holds f a n l) ∙ h

-- if it doesn't, it doesn't hold of all
pub one_fails : (f : ℕ → Bool) (a n : ℕ) (x : Bool) → a < n → f a ≡ false → all_hold f (range_with_len a (n - a)) ≡ x → false ≡ x
one_fails f a n x l t h = ap (λ b. b && all_hold f (range_with_len (a + 1) (n - (a + 1)))) (sym t) ∙ sym (first_holds f a n l) ∙ h
