-- The laws of each semiring.
use Rattle.std.specs.Prelude.{◌≡◌, ◌≢◌, ℕ, ◌+◌, ◌-◌, ◌*◌, ◌%◌, ◌^◌, ◌<◌, min, max, Bool, true, false, cond, Some, IfSome, ◌==◌}
use Rattle.std.proofs.Common.{refl, sym, ap, ◌∙◌, arith, add_assoc, lit<}
use Rattle.std.proofs.lemmas.Bool.{eq-eqb, cond-true}
use Rattle.std.proofs.lemmas.Bool.Decides.{nat_tests}
use Rattle.std.proofs.Math.Nat.{mod-lt, mod-eq_of_lt, add-mod-mod, mod-add-mod, add_comm, mul_assoc, mul-add, add-mul}
use Rattle.std.proofs.lemmas.Nat.{mul-mod_first, mul-mod_second}
use Rattle.cb_semirings.specs.Arithmetic.{Arithmetic, IsValue, IsClosed, IsWordOperator, IsSemiring, IsDistributive, ReadsNumbers, HasNegatives}
use Rattle.cb_semirings.specs.Tables.{plus_times, min_plus, or_and, max_min, with_product, plus}

wraps : (n : ℕ) → n % 2 ^ 64 < 2 ^ 64
wraps n = mod-lt n (lit< tt)

-- a sum of two products, modulo 2^64 at the end alone or at each step
sum_of_products : (x y u v : ℕ) → (x * y + u * v) % 2 ^ 64 ≡ ((x * y) % 2 ^ 64 + (u * v) % 2 ^ 64) % 2 ^ 64
sum_of_products x y u v = sym (mod-add-mod (x * y) (2 ^ 64) ((u * v) % 2 ^ 64) ∙ add-mod-mod (x * y) (u * v) (2 ^ 64))

pub plus_times_is_semiring : IsSemiring plus_times
plus_times_is_semiring = record {
  value_fits = λ x h. h;
  zero_value = lit< tt;
  add_value = λ x y _ _. wraps (x + y);
  mul_value = λ x y _ _. wraps (x * y);
  add_comm = λ x y _ _. ap (λ n. n % 2 ^ 64) (add_comm x y);
  add_assoc = λ x y z _ _ _. mod-add-mod (x + y) (2 ^ 64) z ∙ ap (λ n. n % 2 ^ 64) (add_assoc x y z) ∙ sym (add-mod-mod x (y + z) (2 ^ 64));
  zero_add = λ x h. omega arith;
  zero_mul = λ x _. omega arith;
  mul_zero = λ x _. omega arith;
}

pub plus_times_is_distributive : IsDistributive plus_times 1
plus_times_is_distributive = record {
  one_value = lit< tt;
  mul_assoc = λ x y z _ _ _. mul-mod_first (x * y) z (2 ^ 64) ∙ ap (λ n. n % 2 ^ 64) (mul_assoc x y z) ∙ sym (mul-mod_second x (y * z) (2 ^ 64));
  one_mul = λ x h. omega arith;
  mul_one = λ x h. omega arith;
  mul_add = λ x y z _ _ _. mul-mod_second x (y + z) (2 ^ 64) ∙ ap (λ n. n % 2 ^ 64) (mul-add x y z) ∙ sum_of_products x y x z;
  add_mul = λ x y z _ _ _. mul-mod_first (x + y) z (2 ^ 64) ∙ ap (λ n. n % 2 ^ 64) (add-mul x y z) ∙ sum_of_products x z y z;
}

accept_plus : (negative : Bool) (m : ℕ) → cond negative ((2 ^ 64 - m) % 2 ^ 64) (m % 2 ^ 64) < 2 ^ 64
accept_plus true m = wraps _
accept_plus false m = wraps _

pub plus_times_reads_numbers : ReadsNumbers plus_times
plus_times_reads_numbers = record {
  pattern_value = lit< tt;
  accept_value = λ negative m _. accept_plus negative m;
  accept_same = λ x h _. ap Some (mod-eq_of_lt h);
  only_pattern = λ e. cc;
}

pub min_plus_is_semiring : IsSemiring min_plus
min_plus_is_semiring = record {
  value_fits = λ x h. h;
  zero_value = lit< tt;
  add_value = λ x y h k. omega arith;
  mul_value = λ x y h k. omega arith;
  add_comm = λ x y h k. omega arith;
  add_assoc = λ x y z h k l. omega arith;
  zero_add = λ x h. omega arith;
  zero_mul = λ x h. omega arith;
  mul_zero = λ x h. omega arith;
}

pub min_plus_is_distributive : IsDistributive min_plus 0
min_plus_is_distributive = record {
  one_value = lit< tt;
  mul_assoc = λ x y z h k l. omega arith;
  one_mul = λ x h. omega arith;
  mul_one = λ x h. omega arith;
  mul_add = λ x y z h k l. omega arith;
  add_mul = λ x y z h k l. omega arith;
}

accept_least : (negative : Bool) (m : ℕ) → IfSome (min_plus.accept negative m) (λ x. x < 2 ^ 64)
accept_least true m = grind (arith, nat_tests)
accept_least false m = grind (arith, nat_tests)

accept_least_same : (m : ℕ) → m < 2 ^ 64 → m ≢ 2 ^ 64 - 1 → min_plus.accept false m ≡ Some m
accept_least_same m h n = grind (arith, nat_tests)

pub min_plus_reads_numbers : ReadsNumbers min_plus
min_plus_reads_numbers = record {
  pattern_value = lit< tt;
  accept_value = λ negative m _. accept_least negative m;
  accept_same = λ x h n. accept_least_same x h n;
  only_pattern = λ e. cc;
}

pub or_and_is_semiring : IsSemiring or_and
or_and_is_semiring = record {
  value_fits = λ x h. omega arith;
  zero_value = lit< tt;
  add_value = λ x y h k. omega arith;
  mul_value = λ x y h k. omega arith;
  add_comm = λ x y h k. omega arith;
  add_assoc = λ x y z h k l. omega arith;
  zero_add = λ x h. omega arith;
  zero_mul = λ x h. omega arith;
  mul_zero = λ x h. omega arith;
}

pub or_and_is_distributive : IsDistributive or_and 1
or_and_is_distributive = record {
  one_value = lit< tt;
  mul_assoc = λ x y z h k l. omega arith;
  one_mul = λ x h. omega arith;
  mul_one = λ x h. omega arith;
  mul_add = λ x y z h k l. omega arith;
  add_mul = λ x y z h k l. omega arith;
}

accept_or : (m : ℕ) → cond (m == 0) 0 1 < 2
accept_or m = grind (arith, nat_tests)

accept_or_same : (m : ℕ) → m < 2 → m ≢ 0 → cond (m == 0) 0 1 ≡ m
accept_or_same m h n = grind (arith, nat_tests)

pub or_and_reads_numbers : ReadsNumbers or_and
or_and_reads_numbers = record {
  pattern_value = lit< tt;
  accept_value = λ negative m _. accept_or m;
  accept_same = λ x h n. ap Some (accept_or_same x h n);
  only_pattern = λ _ x h n. omega arith;
}

opposite : (x : ℕ) → x < 2 ^ 64 → (x + (2 ^ 64 - x) % 2 ^ 64) % 2 ^ 64 ≡ 0
opposite x h = omega arith

pub plus_times_has_negatives : HasNegatives plus_times
plus_times_has_negatives = record {
  negative_adds = λ x h. (wraps (2 ^ 64 - x), opposite x h);
  all_or_none = λ x h. refl;
}

pub min_plus_has_negatives : HasNegatives min_plus
min_plus_has_negatives = record { negative_adds = λ x h. tt; all_or_none = λ x h. refl }

pub or_and_has_negatives : HasNegatives or_and
or_and_has_negatives = record { negative_adds = λ x h. tt; all_or_none = λ x h. refl }

pub max_min_is_semiring : IsSemiring max_min
max_min_is_semiring = record {
  value_fits = λ x h. h;
  zero_value = lit< tt;
  add_value = λ x y h k. omega arith;
  mul_value = λ x y h k. omega arith;
  add_comm = λ x y h k. omega arith;
  add_assoc = λ x y z h k l. omega arith;
  zero_add = λ x h. omega arith;
  zero_mul = λ x h. omega arith;
  mul_zero = λ x h. omega arith;
}

pub max_min_is_distributive : IsDistributive max_min (2 ^ 64 - 1)
max_min_is_distributive = record {
  one_value = lit< tt;
  mul_assoc = λ x y z h k l. omega arith;
  one_mul = λ x h. omega arith;
  mul_one = λ x h. omega arith;
  mul_add = λ x y z h k l. omega arith;
  add_mul = λ x y z h k l. omega arith;
}

accept_capacity : (negative : Bool) (m : ℕ) → m < 2 ^ 64 → IfSome (max_min.accept negative m) (λ x. x < 2 ^ 64)
accept_capacity true m h = grind (arith, nat_tests)
accept_capacity false m h = h

pub max_min_reads_numbers : ReadsNumbers max_min
max_min_reads_numbers = record {
  pattern_value = lit< tt;
  accept_value = λ negative m h. accept_capacity negative m h;
  accept_same = λ x h _. refl;
  only_pattern = λ e. cc;
}

pub max_min_has_negatives : HasNegatives max_min
max_min_has_negatives = record { negative_adds = λ x h. tt; all_or_none = λ x h. refl }

-- a choice between a number and itself
either_way : (b : Bool) (n : ℕ) → cond b n n ≡ n
either_way true n = refl
either_way false n = refl

-- a choice between zero and a value is a value
zero_or_value : (s : Arithmetic) → IsValue s s.zero → (b : Bool) (y : ℕ) → IsValue s y → IsValue s (cond b s.zero y)
zero_or_value s z true y k = z
zero_or_value s z false y k = k

module _ (s : Arithmetic) (operator : ℕ → ℕ → ℕ) where
  -- the laws hold with another product, if its products of values are values
  pub with_product_is_semiring : IsSemiring s → IsClosed s operator → IsSemiring (with_product s operator)
  with_product_is_semiring laws values = record {
    value_fits = laws.value_fits;
    zero_value = laws.zero_value;
    add_value = laws.add_value;
    mul_value = λ x y h k.
        let zero_or = zero_or_value s laws.zero_value in
        zero_or (x == s.zero) _ (zero_or (y == s.zero) _ (values x y h k));
    add_comm = laws.add_comm;
    add_assoc = laws.add_assoc;
    zero_add = laws.zero_add;
    zero_mul = λ x h. cond-true _ _ _ (eq-eqb s.zero s.zero refl);
    mul_zero = λ x h. ap (λ b. cond (x == s.zero) s.zero (cond b s.zero (operator x s.zero))) (eq-eqb s.zero s.zero refl) ∙ either_way (x == s.zero) s.zero;
  }

  -- numbers in files become the same values
  pub with_product_reads_numbers : ReadsNumbers s → ReadsNumbers (with_product s operator)
  with_product_reads_numbers reads = record {
    pattern_value = reads.pattern_value;
    accept_value = reads.accept_value;
    accept_same = reads.accept_same;
    only_pattern = reads.only_pattern;
  }

  -- the negatives are the same
  pub with_product_has_negatives : HasNegatives s → HasNegatives (with_product s operator)
  with_product_has_negatives has = record { negative_adds = has.negative_adds; all_or_none = has.all_or_none }

-- the binary operators stay below 2^64
pub plus_fits : IsWordOperator plus
plus_fits x y h k = omega arith

pub min_fits : IsWordOperator min
min_fits x y h k = omega arith

pub max_fits : IsWordOperator max
max_fits x y h k = omega arith

-- so they return values for values, if all numbers below 2^64 are values
pub full_values : (s : Arithmetic) (operator : ℕ → ℕ → ℕ) → s.bound ≡ 2 ^ 64 → IsWordOperator operator → IsClosed s operator
full_values s operator full fits x y h k = rw full (fits x y (rw full at h) (rw full at k))
