-- Semirings that differ in the product alone.
use Rattle.std.specs.Prelude.{◌≡◌}
use Rattle.cb_semirings.specs.Arithmetic.{Arithmetic}

-- two semirings have the same values, sum and numbers
abbrev pub IsBaseOf : Arithmetic → Arithmetic → Type 0
IsBaseOf s base = s ≡ record base { mul = s.mul }
