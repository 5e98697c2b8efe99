-- Tests of values.
use Rattle.std.specs.Prelude.{ℕ, Bool, nat_lt, ◌==◌}
use Rattle.cb_matrix.specs.declared.passing.Test.{Test}
use Rattle.cb_matrix.specs.declared.passing.Test.TheVariants.{Below, Above, Equal}

-- whether a value passes a test: it is below, above or equal to the test's number
abbrev pub passes : Test → ℕ → Bool
passes (Below n) x = nat_lt x n
passes (Above n) x = nat_lt n x
passes (Equal n) x = x == n
