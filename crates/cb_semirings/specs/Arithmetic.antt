-- A semiring over whole numbers: its operations, and the laws that they satisfy. GraphBLAS asks for fewer laws than algebra.
use Rattle.std.specs.Prelude.{◌≡◌, ◌≢◌, ℕ, ◌^◌, ◌<◌, Bool, true, false, Option, Some, IfSome, is_some}

-- The operations of a semiring, and how numbers in a file become values.
pub record Arithmetic : Type 0 where
  -- the values are the numbers below this one
  pub bound : ℕ
  pub zero : ℕ
  pub add : ℕ → ℕ → ℕ
  pub mul : ℕ → ℕ → ℕ
  -- the negative of a value, which added to it gives zero, in a semiring that has negatives
  pub negative : ℕ → Option ℕ
  -- the value of an entry that is written without one
  pub pattern : ℕ
  -- the value that a number in a file stands for, if any, by whether it has a minus sign and by its magnitude
  pub accept : Bool → ℕ → Option ℕ
  -- whether entries are written without their values
  pub writes_pattern : Bool

-- whether a number is a value
abbrev pub IsValue : Arithmetic → ℕ → Type 0
IsValue s x = x < s.bound

-- a binary operator returns values for values
abbrev pub IsClosed : Arithmetic → (ℕ → ℕ → ℕ) → Type 0
IsClosed s operator = (x y : ℕ) → IsValue s x → IsValue s y → IsValue s (operator x y)

-- the result of a binary operator is below 2^64 if both operands are
abbrev pub IsWordOperator : (ℕ → ℕ → ℕ) → Type 0
IsWordOperator operator = (x y : ℕ) → x < 2 ^ 64 → y < 2 ^ 64 → operator x y < 2 ^ 64

-- The laws of a semiring in the sense of GraphBLAS: the sum is a commutative monoid on the values, and a product with its
-- zero is zero. So a place without an entry can stand for zero, and products may be added in any order. The product need
-- not be associative, distribute over the sum, or have a one.
pub record IsSemiring (s : Arithmetic) : Type 0 where
  pub value_fits : (x : ℕ) → IsValue s x → x < 2 ^ 64
  pub zero_value : IsValue s s.zero
  pub add_value : (x y : ℕ) → IsValue s x → IsValue s y → IsValue s (s.add x y)
  pub mul_value : (x y : ℕ) → IsValue s x → IsValue s y → IsValue s (s.mul x y)
  pub add_comm : (x y : ℕ) → IsValue s x → IsValue s y → s.add x y ≡ s.add y x
  pub add_assoc : (x y z : ℕ) → IsValue s x → IsValue s y → IsValue s z → s.add (s.add x y) z ≡ s.add x (s.add y z)
  pub zero_add : (x : ℕ) → IsValue s x → s.add s.zero x ≡ x
  pub zero_mul : (x : ℕ) → IsValue s x → s.mul s.zero x ≡ s.zero
  pub mul_zero : (x : ℕ) → IsValue s x → s.mul x s.zero ≡ s.zero

-- The further laws of a semiring in the sense of algebra: the product is a monoid with this one, and distributes over the sum.
pub record IsDistributive (s : Arithmetic) (one : ℕ) : Type 0 where
  pub one_value : IsValue s one
  pub mul_assoc : (x y z : ℕ) → IsValue s x → IsValue s y → IsValue s z → s.mul (s.mul x y) z ≡ s.mul x (s.mul y z)
  pub one_mul : (x : ℕ) → IsValue s x → s.mul one x ≡ x
  pub mul_one : (x : ℕ) → IsValue s x → s.mul x one ≡ x
  pub mul_add : (x y z : ℕ) → IsValue s x → IsValue s y → IsValue s z → s.mul x (s.add y z) ≡ s.add (s.mul x y) (s.mul x z)
  pub add_mul : (x y z : ℕ) → IsValue s x → IsValue s y → IsValue s z → s.mul (s.add x y) z ≡ s.add (s.mul x z) (s.mul y z)

-- How numbers in a file become values.
pub record ReadsNumbers (s : Arithmetic) : Type 0 where
  pub pattern_value : IsValue s s.pattern
  pub accept_value : (negative : Bool) (magnitude : ℕ) → magnitude < 2 ^ 64 → IfSome (s.accept negative magnitude) (IsValue s)
  pub accept_same : (x : ℕ) → IsValue s x → x ≢ s.zero → s.accept false x ≡ Some x
  pub only_pattern : s.writes_pattern ≡ true → (x : ℕ) → IsValue s x → x ≢ s.zero → x ≡ s.pattern

-- Negatives: a value and its negative add up to zero, and either all values have one or none has.
pub record HasNegatives (s : Arithmetic) : Type 0 where
  pub negative_adds : (x : ℕ) → IsValue s x → IfSome (s.negative x) (λ y. IsValue s y × (s.add x y ≡ s.zero))
  pub all_or_none : (x : ℕ) → IsValue s x → is_some (s.negative x) ≡ is_some (s.negative s.zero)

-- whether values have negatives
abbrev pub has_negatives : Arithmetic → Bool
has_negatives s = is_some (s.negative s.zero)
