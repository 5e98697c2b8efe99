-- The starts by which each rank has a block of the same shape.
use Rattle.std.specs.Prelude.{ℕ, ◌*◌, List, [], ◌∷◌, flat_map}
use Rattle.std.specs.List.{range_with_len}
use Rattle.cb_matrix.specs.Sparse.{Extent}
use Rattle.cb_plan.specs.declared.acts.Start.{Start}

-- that of one rank, in slot 0
abbrev pub whole_start : Extent → ℕ → List Start
whole_start shape rank = record { rank = rank; slot = 0; shape = shape } ∷ []

-- those of all ranks of a grid of side q
abbrev pub all_whole : ℕ → Extent → List Start
all_whole q shape = flat_map (whole_start shape) (range_with_len 0 (q * q))
