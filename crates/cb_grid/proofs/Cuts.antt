-- The blocks of a grid are tiles, and glued together they are the matrix.
use Rattle.std.proofs.Common.{◌≡◌, ℕ, ◌+◌, ◌*◌, ◌/◌, ◌%◌, ◌<◌, List, refl, sym, ap, subst, ◌∙◌}
use Rattle.cb_semirings.specs.Arithmetic.{Arithmetic, IsSemiring}
use Rattle.cb_matrix.specs.Sparse.{Extent, Sparse, IsMatrix, at}
use Rattle.cb_matrix.proofs.Made.{at-matrix_of}
use Rattle.cb_matrix.proofs.Equal.{matrix_is}
use Rattle.cb_grid.specs.Parts.{part_start, part_length, part_shape}
use Rattle.cb_grid.specs.Blocks.{block_of, block_at, part_with, place_in_part, glued}
use Rattle.cb_grid.proofs.Parts.{row_of_rank, column_of_rank, rank_below, rank_of, part_below, start_there, place_below, own_below, own_part}
use Rattle.cb_grid.specs.Tiles.{block_tiles}
use Rattle.cb_grid.proofs.Tiles.{IsTiling}
use Rattle.cb_grid.proofs.EntriesByTile.{IsScattered, tile_is}

-- the blocks of a grid cut a shape into tiles
pub block_tiling : (q : ℕ) (shape : Extent) → 0 < q → IsTiling shape (block_tiles q shape)
block_tiling q shape pos =
    let row : (i j : ℕ) → j < shape.cols → (part_with q shape.rows i * q + part_with q shape.cols j) / q ≡ part_with q shape.rows i =
    λ i j l. row_of_rank q (part_with q shape.rows i) (part_with q shape.cols j) (part_below q shape.cols pos j l) in
    let column : (i j : ℕ) → j < shape.cols → (part_with q shape.rows i * q + part_with q shape.cols j) % q ≡ part_with q shape.cols j =
    λ i j l. column_of_rank q (part_with q shape.rows i) (part_with q shape.cols j) (part_below q shape.cols pos j l) in
    record {
      owned = λ i j l m. rank_below q (part_with q shape.rows i) (part_with q shape.cols j) (part_below q shape.rows pos i l) (part_below q shape.cols pos j m);
      rows = λ i j l m. ap (λ p. part_start q shape.rows p + place_in_part q shape.rows i) (row i j m) ∙ start_there q shape.rows pos i l;
      columns = λ i j l m. ap (λ p. part_start q shape.cols p + place_in_part q shape.cols j) (column i j m) ∙ start_there q shape.cols pos j m;
      row_below = λ i j l m. subst (λ p. place_in_part q shape.rows i < part_length q shape.rows p) (sym (row i j m)) (place_below q shape.rows pos i l);
      column_below = λ i j l m. subst (λ p. place_in_part q shape.cols j < part_length q shape.cols p) (sym (column i j m)) (place_below q shape.cols pos j m);
      own = λ r x y l m n. (λ i. own_part q shape.rows pos (r / q) x m i * q + own_part q shape.cols pos (r % q) y n i) ∙ rank_of q r;
      inside = λ r x y l m n. (own_below q shape.rows pos (r / q) x m, own_below q shape.cols pos (r % q) y n);
    }

module _ (s : Arithmetic) (laws : IsSemiring s) (q : ℕ) (pos : 0 < q) (m : Sparse) (matrix : IsMatrix s m) where
  -- lists of entries that stand in their tiles are the blocks of the matrix
  pub block_is : (blocks : List Sparse) → IsScattered (block_tiles q m.shape) m.entries blocks → (i j : ℕ) → i < q → j < q
      → (block_at blocks (i * q + j) ≡ block_of s q m i j) × IsMatrix s (block_at blocks (i * q + j))
  block_is blocks h i j l k =
      let both = tile_is s laws m (block_tiles q m.shape) (block_tiling q m.shape pos) matrix blocks h (i * q + j) (rank_below q i j l k) in
      let a = row_of_rank q i j k in
      let b = column_of_rank q i j k in
      (both.0 ∙ (λ t. block_of s q m (a t) (b t)), both.1)

  -- the blocks that a matrix is cut into glue to that matrix
  pub glued_cut : (block : ℕ → ℕ → Sparse) → ((i j : ℕ) → i < q → j < q → block i j ≡ block_of s q m i j) → glued s q m.shape block ≡ m
  glued_cut block h =
      sym (matrix_is s laws m m.shape
      (λ i j. at s (block (part_with q m.shape.rows i) (part_with q m.shape.cols j)) (place_in_part q m.shape.rows i) (place_in_part q m.shape.cols j))
      matrix refl (λ i j l k.
      let p = part_with q m.shape.rows i in
      let c = part_with q m.shape.cols j in
      sym (ap (λ (b : Sparse). at s b (place_in_part q m.shape.rows i) (place_in_part q m.shape.cols j)) (h p c (part_below q m.shape.rows pos i l) (part_below q m.shape.cols pos j k))
      ∙ at-matrix_of s (part_shape q m.shape p c) (λ x y. at s m (part_start q m.shape.rows p + x) (part_start q m.shape.cols c + y)) (place_in_part q m.shape.rows i) (place_in_part q m.shape.cols j) (place_below q m.shape.rows pos i l) (place_below q m.shape.cols pos j k)
      ∙ (λ t. at s m (start_there q m.shape.rows pos i l t) (start_there q m.shape.cols pos j k t)))))
