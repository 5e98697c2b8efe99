-- What the definitions give in a few cases.
use Rattle.std.proofs.Common.{◌≡◌, [], ◌∷◌, refl}
use Rattle.cb_matrix.specs.Sparse.{Extent}
use Rattle.cb_grid.specs.Parts.{part, part_length, part_shape, row_group, column_group}
use Rattle.cb_grid.specs.Blocks.{part_with, place_in_part}
use Rattle.cb_grid.specs.Pieces.{piece}

-- ten rows and five columns
abbrev ten_by_five : Extent
ten_by_five = record { rows = 10; cols = 5 }

ten_on_four : (part 4 10 0 ≡ (0, 3)) × (part 4 10 1 ≡ (3, 6)) × (part 4 10 2 ≡ (6, 9)) × (part 4 10 3 ≡ (9, 10))
ten_on_four = (refl, refl, refl, refl)

five_on_four : (part 4 5 0 ≡ (0, 2)) × (part 4 5 1 ≡ (2, 4)) × (part 4 5 2 ≡ (4, 5)) × (part 4 5 3 ≡ (5, 5))
five_on_four = (refl, refl, refl, refl)

none_on_four : (part 4 0 0 ≡ (0, 0)) × (part 4 0 3 ≡ (0, 0))
none_on_four = (refl, refl)

twelve_on_five : (part 5 12 0 ≡ (0, 3)) × (part 5 12 3 ≡ (9, 12)) × (part 5 12 4 ≡ (12, 12))
twelve_on_five = (refl, refl, refl)

-- ten rows and five columns on side 3: the lengths of the parts, and the shapes of some blocks
ten_on_three : (part_length 3 10 0 ≡ 4) × (part_length 3 10 1 ≡ 4) × (part_length 3 10 2 ≡ 2)
ten_on_three = (refl, refl, refl)

ten_by_five_on_three : (part_shape 3 ten_by_five 0 0 ≡ record { rows = 4; cols = 2 }) × (part_shape 3 ten_by_five 1 2 ≡ record { rows = 4; cols = 1 }) × (part_shape 3 ten_by_five 2 2 ≡ record { rows = 2; cols = 1 })
ten_by_five_on_three = (refl, refl, refl)

groups_of_three : (row_group 3 1 ≡ 3 ∷ 4 ∷ 5 ∷ []) × (column_group 3 1 ≡ 1 ∷ 4 ∷ 7 ∷ [])
groups_of_three = (refl, refl)

-- place 9 of ten is the first of the last part
ninth_of_ten : (part_with 4 10 9 ≡ 3) × (place_in_part 4 10 9 ≡ 0)
ninth_of_ten = (refl, refl)

-- on side 2 a vector of four has one row in each piece
four_on_two : (piece 2 4 0 0 ≡ (0, 1)) × (piece 2 4 0 1 ≡ (1, 2)) × (piece 2 4 1 0 ≡ (2, 3)) × (piece 2 4 1 1 ≡ (3, 4))
four_on_two = (refl, refl, refl, refl)
