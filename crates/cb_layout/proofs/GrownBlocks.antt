-- Blocks over a grid that grow entry by entry, from none on.
use Rattle.std.proofs.Common.{◌≡◌, ◌≢◌, ℕ, ◌+◌, ◌*◌, ◌/◌, ◌%◌, ◌<◌, ◌≤◌, List, length, map, set, sym, ap, subst, ◌∙◌, arith}
use Rattle.std.specs.Prelude.{All}
use Rattle.std.specs.List.{range_with_len}
use Rattle.std.proofs.lemmas.List.Elements.{All-nil}
use Rattle.cb_semirings.specs.Arithmetic.{Arithmetic, IsSemiring, IsValue}
use Rattle.cb_matrix.specs.declared.Entry.{Entry}
use Rattle.cb_matrix.specs.Sparse.{Extent, Sparse, IsMatrix, IsBefore, IsInside}
use Rattle.cb_matrix.specs.Values.{empty_matrix}
use Rattle.cb_matrix.proofs.Made.{AllPairs-nil}
use Rattle.cb_dcsc.specs.Columns.{with_entry}
use Rattle.cb_dcsc.proofs.Pushed.{matrix_push}
use Rattle.cb_grid.specs.declared.TheConstants.{LARGEST_SIDE}
use Rattle.cb_grid.specs.Parts.{part_shape}
use Rattle.cb_grid.specs.Blocks.{block_at, glued_blocks}
use Rattle.cb_layout.specs.Distributed.{AreBlocks}
use Rattle.cb_grid.specs.Tiles.{Tiles, block_tiles}
use Rattle.cb_grid.proofs.Tiles.{owner_of, moved}
use Rattle.cb_grid.proofs.EntriesByTile.{IsScattered, scattered_none, tile_is, rank_of_one, inside_of_one, order_of_one, scattered_one}
use Rattle.cb_grid.proofs.Cuts.{block_tiling, block_is, glued_cut}
use Rattle.cb_layout.proofs.BlockColumns.{whole_is_matrix, are_scattered}

-- lists of entries that stand in the tiles of a matrix are its blocks, and glue to it
pub blocks_of : (s : Arithmetic) → IsSemiring s → (q : ℕ) → 0 < q → q ≤ LARGEST_SIDE → (m : Sparse) → IsMatrix s m → (blocks : List Sparse) → IsScattered (block_tiles q m.shape) m.entries blocks
    → AreBlocks s q m.shape blocks × (glued_blocks s q m.shape blocks ≡ m)
blocks_of s laws q pos few m matrix blocks h = (
  record {
    some = pos;
    few = few;
    count = h.count;
    shapes = λ i j l k. ap (λ (b : Sparse). b.shape) (block_is s laws q pos m matrix blocks h i j l k).0;
    matrices = λ r l.
        let c = h.count in
        (tile_is s laws m (block_tiles q m.shape) (block_tiling q m.shape pos) matrix blocks h r (omega arith)).1;
  },
  glued_cut s laws q pos m matrix (λ i j. block_at blocks (i * q + j)) (λ i j l k. (block_is s laws q pos m matrix blocks h i j l k).0),
)

pub empty_is_matrix : (s : Arithmetic) (shape : Extent) → IsMatrix s (empty_matrix shape)
empty_is_matrix s shape = record {
  ascending = AllPairs-nil IsBefore;
  inside = All-nil (IsInside shape);
  values = All-nil (λ e. IsValue s e.value);
  not_zero = All-nil (λ e. e.value ≢ s.zero);
}

-- blocks without entries are those of the matrix without entries
pub empty_blocks_of : (s : Arithmetic) → IsSemiring s → (q : ℕ) → 0 < q → q ≤ LARGEST_SIDE → (shape : Extent) (blocks : List Sparse) → blocks ≡ map (λ r. empty_matrix (part_shape q shape (r / q) (r % q))) (range_with_len 0 (q * q))
    → AreBlocks s q shape blocks × (glued_blocks s q shape blocks ≡ empty_matrix shape)
empty_blocks_of s laws q pos few shape blocks h = blocks_of s laws q pos few (empty_matrix shape) (empty_is_matrix s shape) blocks (scattered_none (block_tiles q shape) blocks h)

-- one more entry, after all the others
module _ (s : Arithmetic) (laws : IsSemiring s) (q : ℕ) (shape : Extent) (blocks : List Sparse) (are : AreBlocks s q shape blocks) (m : Sparse) (whole : glued_blocks s q shape blocks ≡ m)
    (e : Entry) (inside : IsInside m.shape e) (order : All (λ d. IsBefore d e) m.entries) where
  abbrev t : Tiles
  t = block_tiles q shape

  here : IsInside shape e
  here = subst (λ (x : Sparse). IsInside x.shape e) (sym whole) inside

  before : All (λ d. IsBefore d e) (glued_blocks s q shape blocks).entries
  before = subst (λ (x : Sparse). All (λ d. IsBefore d e) x.entries) (sym whole) order

  abbrev es : List Entry
  es = (glued_blocks s q shape blocks).entries

  old : IsMatrix s (glued_blocks s q shape blocks)
  old = whole_is_matrix s laws q shape blocks are

  pub rank_grown : owner_of t e < length blocks
  rank_grown = rank_of_one shape t (block_tiling q shape are.some) es old.inside e here before blocks (are_scattered s laws q shape blocks are)

  pub inside_grown : IsInside (block_at blocks (owner_of t e)).shape (moved t e)
  inside_grown = inside_of_one shape t (block_tiling q shape are.some) es old.inside e here before blocks (are_scattered s laws q shape blocks are)

  pub order_grown : All (λ d. IsBefore d (moved t e)) (block_at blocks (owner_of t e)).entries
  order_grown = order_of_one shape t (block_tiling q shape are.some) es old.inside e here before blocks (are_scattered s laws q shape blocks are)

  -- the blocks then are those of the matrix with the entry
  pub blocks_grown : IsValue s e.value → e.value ≢ s.zero → (new : List Sparse) → new ≡ set blocks (owner_of t e) (with_entry (block_at blocks (owner_of t e)) (moved t e))
      → AreBlocks s q shape new × (glued_blocks s q shape new ≡ with_entry m e)
  blocks_grown value not_zero new h =
      let more = with_entry (glued_blocks s q shape blocks) e in
      let matrix = matrix_push s (glued_blocks s q shape blocks) e old here before value not_zero in
      let both = blocks_of s laws q are.some are.few more matrix new (scattered_one shape t (block_tiling q shape are.some) es old.inside e here before blocks (are_scattered s laws q shape blocks are) new h) in
      (both.0, both.1 ∙ ap (λ x. with_entry x e) whole)
