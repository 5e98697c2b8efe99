-- Tiles glued together: the matrix that they make, of which they are the cuts.
use Rattle.std.proofs.Common.{◌≡◌, ℕ, ◌+◌, ◌<◌, refl, sym, ap, ◌∙◌, arith}
use Rattle.cb_semirings.specs.Arithmetic.{Arithmetic, IsSemiring}
use Rattle.cb_matrix.specs.Sparse.{Extent, Sparse, IsMatrix, at}
use Rattle.cb_matrix.specs.Values.{matrix_of}
use Rattle.cb_matrix.proofs.Made.{at-matrix_of, IsMatrix-matrix_of}
use Rattle.cb_matrix.proofs.Equal.{matrix_is}
use Rattle.cb_matrix.proofs.Totals.{value_at-value}
use Rattle.cb_grid.specs.Tiles.{Tiles}
use Rattle.cb_grid.proofs.Tiles.{IsTiling, tile_of, tile_matrix, tile_value}

-- the matrix that tiles glue to
abbrev pub glued_tiles : Arithmetic → Extent → Tiles → (ℕ → Sparse) → Sparse
glued_tiles s shape t tile = matrix_of s shape (λ i j. at s (tile (t.owner i j)) (t.row i j) (t.column i j))

module _ (s : Arithmetic) (laws : IsSemiring s) (shape : Extent) (t : Tiles) (is : IsTiling shape t) (tile : ℕ → Sparse)
    (sizes : (r : ℕ) → r < t.count → (tile r).shape ≡ t.size r) (matrices : (r : ℕ) → r < t.count → IsMatrix s (tile r)) where
  -- it is a matrix
  pub glued_is_matrix : IsMatrix s (glued_tiles s shape t tile)
  glued_is_matrix =
      IsMatrix-matrix_of s shape (λ i j. at s (tile (t.owner i j)) (t.row i j) (t.column i j))
      (λ i j l k. value_at-value s laws (tile (t.owner i j)).entries (t.row i j) (t.column i j) (matrices (t.owner i j) (is.owned i j l k)).values)

  -- at each place of a tile it has the tile's value
  glued_value : (r x y : ℕ) → r < t.count → x < (t.size r).rows → y < (t.size r).cols → at s (glued_tiles s shape t tile) (t.top r + x) (t.left r + y) ≡ at s (tile r) x y
  glued_value r x y l a b =
      let in_shape = is.inside r x y l a b in
      let i = t.top r + x in
      let j = t.left r + y in
      let own : t.owner i j ≡ r = is.own r x y l a b in
      let row : t.row i j ≡ x = let e : t.top r + t.row i j ≡ i = ap (λ n. t.top n + t.row i j) (sym own) ∙ is.rows i j in_shape.0 in_shape.1 in omega arith in
      let column : t.column i j ≡ y = let e : t.left r + t.column i j ≡ j = ap (λ n. t.left n + t.column i j) (sym own) ∙ is.columns i j in_shape.0 in_shape.1 in omega arith in
      at-matrix_of s shape (λ i j. at s (tile (t.owner i j)) (t.row i j) (t.column i j)) i j in_shape.0 in_shape.1
      ∙ (λ n. at s (tile (own n)) (row n) (column n))

  -- each tile is its cut
  pub tile_is_cut : (r : ℕ) → r < t.count → tile r ≡ matrix_of s (t.size r) (λ x y. at s (glued_tiles s shape t tile) (t.top r + x) (t.left r + y))
  tile_is_cut r l =
      matrix_is s laws (tile r) (t.size r) (λ x y. at s (glued_tiles s shape t tile) (t.top r + x) (t.left r + y)) (matrices r l) (sizes r l)
      (λ x y a b. sym (glued_value r x y l a b))

  -- its entries are those of the matrix that stand in it
  pub tile_is_part : (r : ℕ) → r < t.count → tile r ≡ tile_of t (glued_tiles s shape t tile).entries r
  tile_is_part r l =
      let m = glued_tiles s shape t tile in
      let own = tile_matrix shape t is s m r refl glued_is_matrix in
      tile_is_cut r l
      ∙ sym (matrix_is s laws (tile_of t m.entries r) (t.size r) (λ x y. at s m (t.top r + x) (t.left r + y)) own refl (λ x y p q. tile_value shape t is s.zero r x y m.entries l p q glued_is_matrix.inside))
