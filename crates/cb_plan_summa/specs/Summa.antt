-- The plan of the product: the blocks of all stages, and then the products.
use Rattle.std.specs.Prelude.{◌≡◌, ℕ, suc, zero, ◌+◌, ◌*◌, nat_lt, if◌then◌else◌, List, [], ◌∷◌, ◌++◌, flat_map}
use Rattle.std.specs.List.{range_with_len}
use Rattle.cb_matrix.specs.Sparse.{Extent, Sparse, IsMatrix}
use Rattle.cb_plan.specs.declared.acts.Op.{Op}
use Rattle.cb_plan.specs.declared.acts.Op.TheVariants as op_is
use Rattle.cb_plan.specs.declared.acts.Act.{Act}
use Rattle.cb_plan.specs.Meaning.{Algebra, State, meaning}
use Rattle.cb_plan.specs.Algebras.{matrices}
use Rattle.cb_semirings.specs.Arithmetic.{Arithmetic, IsSemiring}
use Rattle.cb_matrix.specs.Values.{product}
use Rattle.cb_matrix.specs.Operations.{masked}
use Rattle.cb_grid.specs.Parts.{row_group, column_group}
use Rattle.cb_plan_parts.specs.Collectives.{broadcast_acts, shut_acts}
use Rattle.cb_plan_parts.specs.declared.first_slots.Operand.{Operand}
use Rattle.cb_plan_parts.specs.PlanParts.{tagged, each_rank, zero_op, HasParts}

-- the slot for a block of the first matrix in stage k: 3, 5, and then, beyond the mask's slot 7, 8, 10 and so on
abbrev pub left_slot : ℕ → ℕ
left_slot k = if nat_lt k 2 then 3 + 2 * k else 4 + 2 * k

-- the slot for a block of the second matrix in stage k: the next one
abbrev pub right_slot : ℕ → ℕ
right_slot k = left_slot k + 1

-- in stage k, the block of the first matrix in row i and column k goes along its row
abbrev pub row_broadcast : ℕ → ℕ → ℕ → List Act
row_broadcast q k i = broadcast_acts (row_group q i) (i * q + k) (tagged (2 * k)) 0 (left_slot k)

-- in stage k, the block of the second matrix in row k and column j goes along its column
abbrev pub column_broadcast : ℕ → ℕ → ℕ → List Act
column_broadcast q k j = broadcast_acts (column_group q j) (k * q + j) (tagged (2 * k + 1)) 1 (right_slot k)

-- the blocks of stage k come to all ranks
abbrev pub broadcasts : ℕ → ℕ → List Act
broadcasts q k = flat_map (row_broadcast q k) (range_with_len 0 q) ++ flat_map (column_broadcast q k) (range_with_len 0 q)

-- the blocks of all stages come, one stage after another
abbrev pub all_broadcasts : ℕ → List Act
all_broadcasts q = flat_map (broadcasts q) (range_with_len 0 q)

-- the product of the two blocks of stage k is added to slot 2
abbrev pub product_op : ℕ → ℕ → Op
product_op k r = op_is.MulAdd (left_slot k) (right_slot k) 2

-- each rank adds the product of its two blocks of stage k
abbrev pub products : ℕ → ℕ → List Act
products q k = each_rank q (product_op k)

-- each rank adds the products of all stages, one stage after another
abbrev pub all_products : ℕ → List Act
all_products q = flat_map (products q) (range_with_len 0 q)

-- the shape of the product
abbrev pub result_shape : Extent → Extent → Extent
result_shape a b = record { rows = a.rows; cols = b.cols }

-- slot 2 of a rank keeps what the mask in its slot 7 covers
abbrev pub mask_op : ℕ → Op
mask_op r = op_is.Mask 2 7 2

-- slot 2 of each rank gets its part of the product: nothing at first, and, once the blocks of all stages have come,
-- the product of one stage after another
abbrev pub product_acts : ℕ → Extent → Extent → List Act
product_acts q a b = each_rank q (zero_op q 2 (result_shape a b)) ++ (all_broadcasts q ++ all_products q)

-- the acts of the product, and then each lane is shut
abbrev pub summa_acts : ℕ → Extent → Extent → List Act
summa_acts q a b = product_acts q a b ++ shut_acts (q * q)

-- the acts of the product, then each rank keeps what the mask in its slot 7 covers, and then each lane is shut
abbrev pub summa_masked_acts : ℕ → Extent → Extent → List Act
summa_masked_acts q a b = (product_acts q a b ++ each_rank q mask_op) ++ shut_acts (q * q)

-- the operands: the two matrices in slots 0 and 1
abbrev pub factors : Extent → Extent → List Operand
factors a b = record { slot = 0; shape = a } ∷ record { slot = 1; shape = b } ∷ []

-- the operands with a mask of the product in slot 7
abbrev pub masked_factors : Extent → Extent → List Operand
masked_factors a b = record { slot = 0; shape = a } ∷ record { slot = 1; shape = b } ∷ record { slot = 7; shape = result_shape a b } ∷ []

-- what stages 0 to k-1 add up to
abbrev pub stages_sum : {M : Type 0} → Algebra M → (ℕ → M) → (ℕ → M) → M → ℕ → M
stages_sum ops left right acc zero = acc
stages_sum ops left right acc (suc k) = ops.mul_add (left k) (right k) (stages_sum ops left right acc k)

-- if slots 0 and 1 have the parts of two matrices, slot 2 has in the end the parts of their product
abbrev pub MakesProduct : List Act → ℕ → Arithmetic → Sparse → Sparse → Type 0
MakesProduct acts q s a b =
    (state : State Sparse) → HasParts s q a 0 state → HasParts s q b 1 state → HasParts s q (product s a b) 2 (meaning (matrices s) acts state)

-- if slot 7 has the parts of a mask too, slot 2 has in the end the parts of the masked product
abbrev pub MakesMaskedProduct : List Act → ℕ → Arithmetic → Sparse → Sparse → Sparse → Type 0
MakesMaskedProduct acts q s a b m =
    (state : State Sparse) → HasParts s q a 0 state → HasParts s q b 1 state → HasParts s q m 7 state →
    HasParts s q (masked s (product s a b) m) 2 (meaning (matrices s) acts state)

-- over any semiring, the acts make the product of any two matrices of these shapes
abbrev pub IsProductPlan : List Act → ℕ → Extent → Extent → Type 0
IsProductPlan acts q left right =
    (s : Arithmetic) → IsSemiring s → (a b : Sparse) → IsMatrix s a → IsMatrix s b → a.shape ≡ left → b.shape ≡ right → MakesProduct acts q s a b

-- over any semiring, the acts make the product of any two matrices of these shapes under any mask of its shape
abbrev pub IsMaskedPlan : List Act → ℕ → Extent → Extent → Type 0
IsMaskedPlan acts q left right =
    (s : Arithmetic) → IsSemiring s → (a b m : Sparse) → IsMatrix s a → IsMatrix s b → IsMatrix s m →
    a.shape ≡ left → b.shape ≡ right → m.shape ≡ result_shape left right → MakesMaskedProduct acts q s a b m
