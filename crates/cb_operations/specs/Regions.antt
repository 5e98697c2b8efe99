-- Regions of a matrix, bounded by a diagonal.
use Rattle.std.specs.Prelude.{ℕ, ◌+◌, ◌==◌, Bool, cond, not, nat_le}
use Rattle.cb_operations.specs.declared.regions.Region.{Region}
use Rattle.cb_operations.specs.declared.regions.Region.TheVariants.{Lower, Upper, On, Off}

-- whether the place (i, j) is in a region: on the diagonal, column minus row is the same as at the diagonal's place; in the
-- lower triangle it is at most that, and in the upper one at least
abbrev pub is_in : Region → ℕ → ℕ → Bool
is_in (Lower d) i j = nat_le (j + d.row) (i + d.column)
is_in (Upper d) i j = nat_le (i + d.column) (j + d.row)
is_in (On d) i j = (j + d.row) == (i + d.column)
is_in (Off d) i j = not ((j + d.row) == (i + d.column))

-- the value if the test holds, or else z
abbrev pub where_true : ℕ → Bool → ℕ → ℕ
where_true z test x = cond test x z
