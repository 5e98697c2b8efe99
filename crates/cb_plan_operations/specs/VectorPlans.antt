-- The plan of a matrix times a vector that is spread over all ranks.
use Rattle.std.specs.Prelude.{◌≡◌, ◌<◌, ℕ, ◌+◌, ◌-◌, ◌*◌, ◌/◌, ◌%◌, List, [], ◌∷◌, ◌++◌, map, flat_map, Some}
use Rattle.std.specs.List.{range_with_len}
use Rattle.cb_semirings.specs.Arithmetic.{Arithmetic, IsSemiring}
use Rattle.cb_matrix.specs.Sparse.{Extent, Sparse, IsMatrix}
use Rattle.cb_matrix.specs.Values.{product}
use Rattle.cb_letters.specs.declared.Tag.{Tag}
use Rattle.cb_plan.specs.declared.acts.Op.{Op}
use Rattle.cb_plan.specs.declared.acts.Op.TheVariants as op_is
use Rattle.cb_plan.specs.declared.acts.Act.{Act}
use Rattle.cb_plan.specs.declared.acts.Act.TheVariants as act_is
use Rattle.cb_plan.specs.declared.acts.Start.{Start}
use Rattle.cb_plan.specs.Meaning.{State, meaning}
use Rattle.cb_plan.specs.Algebras.{matrices}
use Rattle.cb_grid.specs.declared.TheConstants.{LARGEST_SIDE}
use Rattle.cb_grid.specs.Parts.{row_group, column_group, part, part_start, part_length}
use Rattle.cb_grid.specs.Pieces.{piece_shape, piece_of}
use Rattle.cb_plan_parts.specs.Collectives.{broadcast_acts, all_to_all_acts, shut_acts}
use Rattle.cb_plan_parts.specs.PlanParts.{tagged, part_start_at, HasParts}

-- the shape of a vector
abbrev pub column : ℕ → Extent
column rows = record { rows = rows; cols = 1 }

-- ---- where the vectors are
-- slot n of rank (t, j) has piece t of part j of an input
abbrev pub HasInput : Arithmetic → ℕ → Sparse → ℕ → State Sparse → Type 0
HasInput s q x n state = (t j : ℕ) → t < q → j < q → state (t * q + j) n ≡ Some (piece_of s q x j t)

-- slot n of rank (i, t) has piece t of part i of a result
abbrev pub HasResult : Arithmetic → ℕ → Sparse → ℕ → State Sparse → Type 0
HasResult s q y n state = (i t : ℕ) → i < q → t < q → state (i * q + t) n ≡ Some (piece_of s q y i t)

-- a slot of a rank has its piece of an input by which a matrix of this shape is multiplied
abbrev pub input_start_at : ℕ → ℕ → ℕ → Extent → Start
input_start_at q slot r shape = record { rank = r; slot = slot; shape = piece_shape q (column shape.cols) (r % q) (r / q) }

-- what a rank has before the first act: its part of the matrix in slot 0, and its piece of the vector in slot 1
abbrev pub vector_starts_at : ℕ → Extent → ℕ → List Start
vector_starts_at q shape r = part_start_at q 0 r shape ∷ input_start_at q 1 r shape ∷ []

-- what all ranks have before the first act
abbrev pub vector_starts : ℕ → Extent → List Start
vector_starts q shape = flat_map (vector_starts_at q shape) (range_with_len 0 (q * q))

-- ---- the acts
-- a rank does operations, one after the other
abbrev pub works : ℕ → List Op → List Act
works r ops = map (λ op. act_is.Work r op) ops

-- each rank of a grid does its operations
abbrev pub each_works : ℕ → (ℕ → List Op) → List Act
each_works q ops = flat_map (λ r. works r (ops r)) (range_with_len 0 (q * q))

-- piece t of part j goes down column j of ranks, to slot 10 + t of each
abbrev pub piece_broadcast : ℕ → ℕ → ℕ → List Act
piece_broadcast q j t = broadcast_acts (column_group q j) (t * q + j) (tagged t) 1 (10 + t)

-- each piece of part j goes down column j
abbrev pub part_broadcasts : ℕ → ℕ → List Act
part_broadcasts q j = flat_map (piece_broadcast q j) (range_with_len 0 q)

abbrev pub piece_broadcasts : ℕ → List Act
piece_broadcasts q = flat_map (part_broadcasts q) (range_with_len 0 q)

-- piece t, placed in its part, is added to slot 3
abbrev pub add_piece : ℕ → Extent → ℕ → List Op
add_piece q whole t = op_is.Place (10 + t) whole (part_start q whole.rows t, 0) 4 ∷ op_is.Add 3 4 3 ∷ []

-- the part of the vector is assembled from its pieces, and the rank's block is multiplied by it
abbrev pub product_ops : ℕ → Extent → List Op
product_ops q whole = op_is.Zero 3 whole ∷ (flat_map (add_piece q whole) (range_with_len 0 q) ++ op_is.MulVec 0 3 5 ∷ [])

-- piece t of a product with this many rows goes to slot 80 + t
abbrev pub piece_cut : ℕ → ℕ → ℕ → Op
piece_cut q rows t = op_is.Cut 5 (part q rows t) (0, 1) (80 + t)

abbrev pub cut_ops : ℕ → ℕ → List Op
cut_ops q rows = map (piece_cut q rows) (range_with_len 0 q)

-- the tag of the exchange, which isn't that of a piece of the vector
abbrev pub exchange_tag : Tag
exchange_tag = tagged LARGEST_SIDE

-- in row i of ranks, each rank receives its piece of each product
abbrev pub exchange : ℕ → ℕ → List Act
exchange q i = all_to_all_acts (row_group q i) exchange_tag 80 150

abbrev pub exchanges : ℕ → List Act
exchanges q = flat_map (exchange q) (range_with_len 0 q)

-- another of the received pieces is added to the first
abbrev pub next_summand : ℕ → Op
next_summand s = op_is.Add 2 (151 + s) 2

-- the received pieces are added up in slot 2
abbrev pub sum_ops : ℕ → List Op
sum_ops q = op_is.Copy 150 2 ∷ map next_summand (range_with_len 0 (q - 1))

-- a rank multiplies its block of a matrix of this shape
abbrev pub products_at : ℕ → Extent → ℕ → List Op
products_at q shape r = product_ops q (column (part_length q shape.cols (r % q)))

abbrev pub cuts_at : ℕ → Extent → ℕ → List Op
cuts_at q shape r = cut_ops q (part_length q shape.rows (r / q))

-- the vector goes to the ranks, each multiplies its block, and the pieces of the products are added where they belong
abbrev pub spread_product_acts : ℕ → Extent → List Act
spread_product_acts q shape =
    piece_broadcasts q
    ++ (each_works q (products_at q shape)
    ++ (each_works q (cuts_at q shape)
    ++ (exchanges q
    ++ each_works q (λ _. sum_ops q))))

abbrev pub vector_acts : ℕ → Extent → List Act
vector_acts q shape = spread_product_acts q shape ++ shut_acts (q * q)

-- ---- what they leave
-- from this state, the acts leave the pieces of a result in slot 2, and don't change slot 0
pub record LeavesResult (s : Arithmetic) (q : ℕ) (acts : List Act) (state : State Sparse) (y : Sparse) : Type 0 where
  pub pieces : HasResult s q y 2 (meaning (matrices s) acts state)
  pub kept : (r : ℕ) → meaning (matrices s) acts state r 0 ≡ state r 0

-- over any semiring, the acts leave the product of any matrix of this shape whose parts are in slot 0 and any vector
-- whose pieces are in slot 1
abbrev pub IsVectorPlan : List Act → ℕ → Extent → Type 0
IsVectorPlan acts q shape =
    (s : Arithmetic) → IsSemiring s → (a x : Sparse) → IsMatrix s a → IsMatrix s x → a.shape ≡ shape → x.shape ≡ column shape.cols →
    (state : State Sparse) → HasParts s q a 0 state → HasInput s q x 1 state → LeavesResult s q acts state (product s a x)
