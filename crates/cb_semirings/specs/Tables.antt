-- The semirings, each as the record of its operations.
use Rattle.std.specs.Prelude.{ℕ, ◌+◌, ◌-◌, ◌*◌, ◌%◌, ◌^◌, min, max, true, false, cond, Some, None, nat_lt, ◌==◌}
use Rattle.cb_semirings.specs.Arithmetic.{Arithmetic}

-- sums and products modulo 2^64; accepts any number, modulo 2^64
abbrev pub plus_times : Arithmetic
plus_times = record {
  bound = 2 ^ 64;
  zero = 0;
  add = λ x y. (x + y) % 2 ^ 64;
  mul = λ x y. (x * y) % 2 ^ 64;
  negative = λ x. Some ((2 ^ 64 - x) % 2 ^ 64);
  pattern = 1;
  accept = λ negative magnitude. Some (cond negative ((2 ^ 64 - magnitude) % 2 ^ 64) (magnitude % 2 ^ 64));
  writes_pattern = false;
}

-- minimum, and sum saturating at infinity, 2^64 - 1; accepts numbers below infinity, with a minus sign only on 0
abbrev pub min_plus : Arithmetic
min_plus = record {
  bound = 2 ^ 64;
  zero = 2 ^ 64 - 1;
  add = min;
  mul = λ x y. min (x + y) (2 ^ 64 - 1);
  negative = λ x. None;
  pattern = 1;
  accept = λ negative magnitude. cond negative (cond (magnitude == 0) (Some 0) None) (cond (nat_lt magnitude (2 ^ 64 - 1)) (Some magnitude) None);
  writes_pattern = false;
}

-- logical or, and logical and; accepts any number, 0 as 0 and all others as 1
abbrev pub or_and : Arithmetic
or_and = record {
  bound = 2;
  zero = 0;
  add = max;
  mul = min;
  negative = λ x. None;
  pattern = 1;
  accept = λ negative magnitude. Some (cond (magnitude == 0) 0 1);
  writes_pattern = true;
}

-- maximum, and minimum; accepts numbers below 2^64, with a minus sign only on 0
abbrev pub max_min : Arithmetic
max_min = record {
  bound = 2 ^ 64;
  zero = 0;
  add = max;
  mul = min;
  negative = λ x. None;
  pattern = 1;
  accept = λ negative magnitude. cond negative (cond (magnitude == 0) (Some 0) None) (Some magnitude);
  writes_pattern = false;
}

-- a semiring with another product: zero if one operand is zero, and otherwise the result of a binary operator
abbrev pub with_product : Arithmetic → (ℕ → ℕ → ℕ) → Arithmetic
with_product s operator = record {
  bound = s.bound;
  zero = s.zero;
  add = s.add;
  mul = λ x y. cond (x == s.zero) s.zero (cond (y == s.zero) s.zero (operator x y));
  negative = s.negative;
  pattern = s.pattern;
  accept = s.accept;
  writes_pattern = s.writes_pattern;
}

-- the binary operators: always 1
abbrev pub pair : ℕ → ℕ → ℕ
pair x y = 1

-- the first operand
abbrev pub first : ℕ → ℕ → ℕ
first x y = x

-- the second operand
abbrev pub second : ℕ → ℕ → ℕ
second x y = y

-- the sum, saturating at 2^64 - 1
abbrev pub plus : ℕ → ℕ → ℕ
plus x y = min (x + y) (2 ^ 64 - 1)

-- sums, modulo 2^64, of ones: how many products there are
abbrev pub plus_pair : Arithmetic
plus_pair = with_product plus_times pair

-- sums, modulo 2^64, of minima
abbrev pub plus_min : Arithmetic
plus_min = with_product plus_times min

-- sums, modulo 2^64, of first operands
abbrev pub plus_first : Arithmetic
plus_first = with_product plus_times first

-- sums, modulo 2^64, of second operands
abbrev pub plus_second : Arithmetic
plus_second = with_product plus_times second

-- minima of first operands
abbrev pub min_first : Arithmetic
min_first = with_product min_plus first

-- minima of second operands
abbrev pub min_second : Arithmetic
min_second = with_product min_plus second

-- maxima of first operands
abbrev pub max_first : Arithmetic
max_first = with_product max_min first

-- maxima of second operands
abbrev pub max_second : Arithmetic
max_second = with_product max_min second

-- maxima of sums that saturate at 2^64 - 1
abbrev pub max_plus : Arithmetic
max_plus = with_product max_min plus

-- minima of maxima
abbrev pub min_max : Arithmetic
min_max = with_product min_plus max
