-- Worked examples, by computing: the definitions say what is meant.
use Rattle.std.specs.Prelude.{◌≡◌, ℕ, if◌then◌else◌, ◌==◌, List, [], ◌∷◌, refl}
use Rattle.cb_semirings.specs.Tables.{plus_times}
use Rattle.cb_matrix.specs.declared.Entry.{Entry}
use Rattle.cb_matrix.specs.Sparse.{Sparse, Extent, value_at}
use Rattle.cb_matrix.specs.Values.{total, column_of, columns_of}
use Rattle.cb_plan_transfers.specs.Pieces.{sum_of_pieces}
use Rattle.cb_plan_transfers.specs.Panels.{panel_of}

abbrev entry : ℕ → ℕ → ℕ → Entry
entry i j v = record { row = i; column = j; value = v }

abbrev two_by_four : Extent
two_by_four = record { rows = 2; cols = 4 }

abbrev sparse : List Entry → Sparse
sparse es = record { shape = two_by_four; entries = es }

-- 1 0 2 0 over 0 3 0 4
abbrev m : Sparse
m = sparse (entry 0 0 1 ∷ entry 1 1 3 ∷ entry 0 2 2 ∷ entry 1 3 4 ∷ [])

-- on a grid of side 2 the panels are a column each, from left to right by column of the grid, and in it by row
panels_of_m : (panel_of plus_times 2 m 0 0 ≡ sparse (entry 0 0 1 ∷ [])) × (panel_of plus_times 2 m 1 0 ≡ sparse (entry 1 1 3 ∷ [])) × (panel_of plus_times 2 m 0 1 ≡ sparse (entry 0 2 2 ∷ [])) × (panel_of plus_times 2 m 1 1 ≡ sparse (entry 1 3 4 ∷ []))
unfolding value_at total column_of columns_of
panels_of_m = (refl, refl, refl, refl)

-- three pieces, two of which have the first place
abbrev pieces : ℕ → Sparse
pieces r = if r == 0 then sparse (entry 0 0 1 ∷ []) else (if r == 1 then sparse (entry 1 1 3 ∷ []) else (if r == 2 then sparse (entry 0 0 5 ∷ entry 0 2 2 ∷ []) else sparse []))

sum_of_four : sum_of_pieces plus_times 4 two_by_four pieces ≡ sparse (entry 0 0 6 ∷ entry 1 1 3 ∷ entry 0 2 2 ∷ [])
unfolding value_at total column_of columns_of
sum_of_four = refl
