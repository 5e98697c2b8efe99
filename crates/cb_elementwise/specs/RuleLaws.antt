-- Rules applied to two zeros, and to values.
use Rattle.std.specs.Prelude.{◌≡◌, ℕ, Bool, true, false, cond, not, ◌==◌, refl}
use Rattle.cb_semirings.specs.Arithmetic.{Arithmetic, IsValue, IsSemiring}
use Rattle.cb_matrix.specs.declared.passing.Test.{Test}
use Rattle.cb_matrix.specs.Passing.{passes}
use Rattle.cb_operations.specs.declared.functions.Function.{Function}
use Rattle.cb_operations.specs.declared.functions.Function.TheVariants.{Constant, Sum, LeftProduct, RightProduct, Row, Column}
use Rattle.cb_operations.specs.Functions.{operand_of, function_value}
use Rattle.cb_operations.specs.Regions.{where_true}

-- the first value if the second isn't z, or else z
abbrev pub where_stored : ℕ → ℕ → ℕ → ℕ
where_stored z x y = cond (not (y == z)) x z

-- the first value if the second is z, otherwise z
abbrev pub where_absent : ℕ → ℕ → ℕ → ℕ
where_absent z x y = cond (not (y == z)) z x

-- the value, or z if it passes the test
abbrev pub unless_passes : ℕ → Test → ℕ → ℕ
unless_passes z test x = cond (passes test x) z x

same_twice : (b : Bool) (z : ℕ) → cond b z z ≡ z
same_twice true z = refl
same_twice false z = refl

either : (s : Arithmetic) (b : Bool) (x y : ℕ) → IsValue s x → IsValue s y → IsValue s (cond b x y)
either s true x y h k = h
either s false x y h k = k

pub where_stored-zero : (z : ℕ) → where_stored z z z ≡ z
where_stored-zero z = same_twice (not (z == z)) z

pub where_stored-value : (s : Arithmetic) → IsSemiring s → (x y : ℕ) → IsValue s x → IsValue s (where_stored s.zero x y)
where_stored-value s laws x y h = either s (not (y == s.zero)) x s.zero h laws.zero_value

pub where_absent-zero : (z : ℕ) → where_absent z z z ≡ z
where_absent-zero z = same_twice (not (z == z)) z

pub where_absent-value : (s : Arithmetic) → IsSemiring s → (x y : ℕ) → IsValue s x → IsValue s (where_absent s.zero x y)
where_absent-value s laws x y h = either s (not (y == s.zero)) s.zero x laws.zero_value h

pub unless_passes-value : (s : Arithmetic) → IsSemiring s → (test : Test) (x : ℕ) → IsValue s x → IsValue s (unless_passes s.zero test x)
unless_passes-value s laws test x h = either s (passes test x) s.zero x laws.zero_value h

pub where_true-value : (s : Arithmetic) → IsSemiring s → (test : Bool) (x : ℕ) → IsValue s x → IsValue s (where_true s.zero test x)
where_true-value s laws true x h = h
where_true-value s laws false x h = laws.zero_value

pub function_value-value : (s : Arithmetic) → IsSemiring s → (f : Function) (i j x : ℕ) → IsValue s (operand_of f i j)
    → IsValue s x → IsValue s (function_value s f i j x)
function_value-value s laws (Constant n) i j x k h = k
function_value-value s laws (Sum n) i j x k h = laws.add_value x n h k
function_value-value s laws (LeftProduct n) i j x k h = laws.mul_value n x k h
function_value-value s laws (RightProduct n) i j x k h = laws.mul_value x n h k
function_value-value s laws Row i j x k h = k
function_value-value s laws Column i j x k h = k
