-- What the acts of the product by a spread vector leave, over blocks of any kind, and of matrices.
use Rattle.std.proofs.Common.{◌≡◌, ℕ, ◌+◌, ◌-◌, ◌*◌, ◌/◌, ◌%◌, ◌<◌, ◌≤◌, ◌++◌, inl, sym, ap, ◌∙◌, arith}
use Rattle.std.specs.Prelude.{Some}
use Rattle.cb_matrix.specs.Sparse.{Extent}
use Rattle.cb_matrix.specs.Values.{product}
use Rattle.cb_matrix.specs.Operations.{cut}
use Rattle.cb_plan.specs.Meaning.{Algebra, State, meaning, one}
use Rattle.cb_plan.specs.Algebras.{matrices}
use Rattle.cb_plan.proofs.Effects.{meaning-append}
use Rattle.cb_grid.specs.declared.TheConstants.{LARGEST_SIDE}
use Rattle.cb_grid.specs.Parts.{part, part_length}
use Rattle.cb_grid.specs.Blocks.{block_of}
use Rattle.cb_grid.specs.Pieces.{piece_of}
use Rattle.cb_grid.proofs.Parts.{rank_below}
use Rattle.cb_plan_parts.specs.Collectives.{shut_acts}
use Rattle.cb_plan_parts.proofs.ShutMeaning.{shut_nothing}
use Rattle.cb_plan_parts.proofs.Grid.{at_place}
use Rattle.cb_plan_operations.specs.VectorPlans.{column, each_works, piece_broadcasts, product_ops, cut_ops, exchanges, sum_ops, products_at, cuts_at, spread_product_acts, vector_acts, IsVectorPlan}
use Rattle.cb_plan_operations.proofs.RankPrograms.{after_ops, each_works_here, each_works_skip}
use Rattle.cb_plan_operations.proofs.VectorSteps.{assembled, summed, pieces_come, pieces_skip, product_made, products_skip, pieces_cut, cuts_skip, pieces_exchanged, exchanges_skip, sum_made, sums_skip}
use Rattle.cb_plan_operations.proofs.Assembly.{vector_part, part_assembled, pieces_make_product}

-- the slots after each step
module _ {M : Type 0} (ops : Algebra M) (q : ℕ) (few : q ≤ LARGEST_SIDE) (shape : Extent) (state : State M) where
  -- once each rank has the pieces of the part of the vector that its column needs
  abbrev pub after_pieces : State M
  after_pieces = meaning ops (piece_broadcasts q) state

  -- once each has multiplied its block by that part
  abbrev pub after_products : State M
  after_products = meaning ops (each_works q (products_at q shape)) after_pieces

  -- once each has cut its product into pieces
  abbrev pub after_cuts : State M
  after_cuts = meaning ops (each_works q (cuts_at q shape)) after_products

  -- once the ranks of each row have exchanged these pieces
  abbrev pub after_exchanges : State M
  after_exchanges = meaning ops (exchanges q) after_cuts

  abbrev pub after_sums : State M
  after_sums = meaning ops (each_works q (λ _. sum_ops q)) after_exchanges

  pub spread_means : meaning ops (spread_product_acts q shape) state ≡ after_sums
  spread_means =
      let sums = each_works q (λ _. sum_ops q) in
      let cuts = each_works q (cuts_at q shape) in
      let products = each_works q (products_at q shape) in
      meaning-append ops (piece_broadcasts q) (products ++ (cuts ++ (exchanges q ++ sums))) state
      ∙ meaning-append ops products (cuts ++ (exchanges q ++ sums)) after_pieces
      ∙ meaning-append ops cuts (exchanges q ++ sums) after_products
      ∙ meaning-append ops (exchanges q) sums after_cuts

  -- slot 0 stays
  pub left_stays : (r : ℕ) → after_sums r 0 ≡ state r 0
  left_stays r =
      each_works_skip ops q (λ _. sum_ops q) after_exchanges r 0 (λ _ slots. sums_skip ops q slots 0 (omega arith))
      ∙ exchanges_skip ops q few after_cuts r 0 (omega arith)
      ∙ each_works_skip ops q (cuts_at q shape) after_products r 0 (λ g slots. cuts_skip ops q (part_length q shape.rows (g / q)) slots 0 (omega arith))
      ∙ each_works_skip ops q (products_at q shape) after_pieces r 0 (λ g slots. products_skip ops q (column (part_length q shape.cols (g % q))) slots 0 (omega arith) (omega arith) (omega arith))
      ∙ pieces_skip ops q state r 0 (inl (omega arith))

  -- from the blocks of a matrix and the pieces of a vector
  module _ (block piece : ℕ → ℕ → M) (left : (i j : ℕ) → i < q → j < q → state (i * q + j) 0 ≡ Some (block i j)) (right : (t j : ℕ) → t < q → j < q → state (t * q + j) 1 ≡ Some (piece j t)) where
    -- a block times the part of the vector that the pieces make
    abbrev pub block_product : ℕ → ℕ → M
    block_product i j = ops.mul_vec (block i j) (assembled ops q (column (part_length q shape.cols j)) (piece j) q)

    -- its piece t
    abbrev pub product_piece : ℕ → ℕ → ℕ → M
    product_piece i t j = ops.cut (part q (part_length q shape.rows i) t) (0, 1) (block_product i j)

    -- slot 0 has the rank's block
    pub has_left : (i j : ℕ) → i < q → j < q → after_pieces (i * q + j) 0 ≡ Some (block i j)
    has_left i j l m = pieces_skip ops q state (i * q + j) 0 (inl (omega arith)) ∙ left i j l m

    -- slots from 10 on have the pieces that its column needs
    pub has_pieces : (i j t : ℕ) → i < q → j < q → t < q → after_pieces (i * q + j) (10 + t) ≡ Some (piece j t)
    has_pieces i j t l m h = pieces_come ops q state i j t l m h ∙ right t j h m

    -- slot 5 has the product of the block and the part that they make
    pub has_product : (i j : ℕ) → i < q → j < q → after_products (i * q + j) 5 ≡ Some (block_product i j)
    has_product i j l m =
        ap (λ slots. slots 5) (each_works_here ops q (products_at q shape) after_pieces (i * q + j) (rank_below q i j l m))
        ∙ at_place (λ _ y. after_ops ops (product_ops q (column (part_length q shape.cols y))) (after_pieces (i * q + j)) 5) q i j m
        ∙ product_made ops q (column (part_length q shape.cols j)) (piece j) (block i j) (after_pieces (i * q + j)) (has_left i j l m) (λ t h. has_pieces i j t l m h)

    -- slots from 80 on have the pieces of that product
    pub has_cuts : (i j t : ℕ) → i < q → j < q → t < q → after_cuts (i * q + j) (80 + t) ≡ Some (product_piece i t j)
    has_cuts i j t l m h =
        ap (λ slots. slots (80 + t)) (each_works_here ops q (cuts_at q shape) after_products (i * q + j) (rank_below q i j l m))
        ∙ at_place (λ y _. after_ops ops (cut_ops q (part_length q shape.rows y)) (after_products (i * q + j)) (80 + t)) q i j m
        ∙ pieces_cut ops q (part_length q shape.rows i) t (after_products (i * q + j)) h
        ∙ ap (one (ops.cut (part q (part_length q shape.rows i) t) (0, 1))) (has_product i j l m)

    -- slots from 150 on have the rank's own piece of each product of its row
    pub has_summands : (i t j : ℕ) → i < q → t < q → j < q → after_exchanges (i * q + t) (150 + j) ≡ Some (product_piece i t j)
    has_summands i t j l h m = pieces_exchanged ops q few after_cuts i t j l h m ∙ has_cuts i j t l m h

    pub has_result : 0 < q → (i t : ℕ) → i < q → t < q → after_sums (i * q + t) 2 ≡ Some (summed ops (product_piece i t) (q - 1))
    has_result pos i t l h =
        ap (λ slots. slots 2) (each_works_here ops q (λ _. sum_ops q) after_exchanges (i * q + t) (rank_below q i t l h))
        ∙ sum_made ops q (product_piece i t) (after_exchanges (i * q + t)) (λ j k. has_summands i t j l h (omega arith))

-- the same sum if the blocks are the same
summed_same : {M : Type 0} (ops : Algebra M) (f g : ℕ → M) → ((k : ℕ) → f k ≡ g k) → (n : ℕ) → summed ops f n ≡ summed ops g n
summed_same ops f g same n = ap (λ h. summed ops h n) (λ i k. same k i)

-- the acts leave the product
pub is_vector_plan : (q : ℕ) → 0 < q → q ≤ LARGEST_SIDE → (shape : Extent) → IsVectorPlan (vector_acts q shape) q shape
is_vector_plan q pos few shape s laws a x is_a is_x e f state left right =
    let ops = matrices s in
    let after = meaning ops (spread_product_acts q shape) state in
    let is : meaning ops (vector_acts q shape) state ≡ after_sums ops q few shape state =
    meaning-append ops (spread_product_acts q shape) (shut_acts (q * q)) state ∙ shut_nothing ops (q * q) after ∙ spread_means ops q few shape state in
    let one_column : x.shape.cols ≡ 1 = ap (λ (z : Extent). z.cols) f in
    let rows_are : x.shape.rows ≡ shape.cols = ap (λ (z : Extent). z.rows) f in
    let agree : a.shape.cols ≡ x.shape.rows = ap (λ (z : Extent). z.cols) e ∙ sym rows_are in
    record {
      pieces = λ i t l h.
          let part_is : (j : ℕ) → assembled ops q (column (part_length q shape.cols j)) (piece_of s q x j) q ≡ vector_part s q x j = λ j.
          ap (λ d. assembled ops q (column (part_length q d j)) (piece_of s q x j) q) (sym rows_are) ∙ part_assembled s laws q pos x is_x one_column j in
          let each : (j : ℕ) → product_piece ops q few shape state (block_of s q a) (piece_of s q x) left right i t j ≡ cut s (part q (part_length q a.shape.rows i) t) (0, 1) (product s (block_of s q a i j) (vector_part s q x j)) = λ j.
          ap (λ (z : Extent). cut s (part q (part_length q z.rows i) t) (0, 1) (product s (block_of s q a i j) (assembled ops q (column (part_length q shape.cols j)) (piece_of s q x j) q))) (sym e)
          ∙ ap (λ v. cut s (part q (part_length q a.shape.rows i) t) (0, 1) (product s (block_of s q a i j) v)) (part_is j) in
          ap (λ st. st (i * q + t) 2) is
          ∙ has_result ops q few shape state (block_of s q a) (piece_of s q x) left right pos i t l h
          ∙ ap Some (summed_same ops (product_piece ops q few shape state (block_of s q a) (piece_of s q x) left right i t) (λ j. cut s (part q (part_length q a.shape.rows i) t) (0, 1) (product s (block_of s q a i j) (vector_part s q x j))) each (q - 1)
          ∙ pieces_make_product s laws q pos a x is_a is_x agree one_column i t);
      kept = λ r. ap (λ st. st r 0) is ∙ left_stays ops q few shape state r;
    }
