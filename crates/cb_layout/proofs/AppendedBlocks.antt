-- Blocks over a grid that grow by the blocks of another matrix, whose entries all come later.
use Rattle.std.proofs.Common.{◌≡◌, ℕ, ◌*◌, ◌<◌, List, [], ◌∷◌, ◌++◌, length, true, false, cond, refl, sym, ap, subst, ◌∙◌, arith}
use Rattle.std.specs.Prelude.{All, ◌==◌}
use Rattle.std.proofs.lemmas.List.{length-append}
use Rattle.cb_semirings.specs.Arithmetic.{Arithmetic, IsSemiring}
use Rattle.cb_matrix.specs.declared.Entry.{Entry}
use Rattle.cb_matrix.specs.Sparse.{Extent, Sparse, IsMatrix, IsBefore}
use Rattle.cb_dcsc.specs.Columns.{with_entries}
use Rattle.cb_dcsc.proofs.Appended.{matrix_append}
use Rattle.cb_grid.specs.Blocks.{block_at, glued_blocks}
use Rattle.cb_layout.specs.Distributed.{Distributed, AreBlocks}
use Rattle.cb_grid.specs.Tiles.{Tiles, block_tiles}
use Rattle.cb_grid.proofs.Tiles.{owner_of, moved, tile_of, entries_of, tile_matrix}
use Rattle.cb_grid.proofs.EntriesByTile.{IsScattered}
use Rattle.cb_grid.proofs.Cuts.{block_tiling}
use Rattle.cb_layout.proofs.BlockColumns.{whole_is_matrix, are_scattered}
use Rattle.cb_layout.proofs.GrownBlocks.{blocks_of}

-- of entries after others a tile has its own, after its own of the others
entries_of-append : (t : Tiles) (r : ℕ) (es fs : List Entry) → entries_of t r (es ++ fs) ≡ entries_of t r es ++ entries_of t r fs
unfolding entries_of
entries_of-append t r [] fs = refl
entries_of-append t r (e ∷ es) fs = elim (owner_of t e == r) as (λ b. cond b (moved t e ∷ entries_of t r (es ++ fs)) (entries_of t r (es ++ fs)) ≡ cond b (moved t e ∷ entries_of t r es) (entries_of t r es) ++ entries_of t r fs) [
  | true ↦ ap (λ xs. moved t e ∷ xs) (entries_of-append t r es fs)
  | false ↦ entries_of-append t r es fs
]

module _ (s : Arithmetic) (laws : IsSemiring s) (q : ℕ) (shape : Extent) (xs ys : List Sparse) (are : AreBlocks s q shape xs) (others : AreBlocks s q shape ys)
    (order : All (λ d. All (IsBefore d) (glued_blocks s q shape ys).entries) (glued_blocks s q shape xs).entries) where
  abbrev t : Tiles
  t = block_tiles q shape

  -- both together
  abbrev both : Sparse
  both = with_entries (glued_blocks s q shape xs) (glued_blocks s q shape ys).entries

  both_is_matrix : IsMatrix s both
  both_is_matrix = matrix_append s (glued_blocks s q shape xs) (glued_blocks s q shape ys).entries (whole_is_matrix s laws q shape xs are) (whole_is_matrix s laws q shape ys others) order

  tile_of_both : (r : ℕ) → r < q * q → with_entries (block_at xs r) (block_at ys r).entries ≡ tile_of t both.entries r
  tile_of_both r l =
      let a = (are_scattered s laws q shape xs are).tiles r l in
      let b = (are_scattered s laws q shape ys others).tiles r l in
      (λ i. with_entries (a i) (b i).entries)
      ∙ ap (λ es. record { shape = t.size r; entries = es }) (sym (entries_of-append t r (glued_blocks s q shape xs).entries (glued_blocks s q shape ys).entries))

  -- blocks of one rank have one shape
  pub joined_shapes : (r : ℕ) → r < length ys → (block_at ys r).shape ≡ (block_at xs r).shape
  joined_shapes r l =
      let c = others.count in
      let m : r < q * q = omega arith in
      ap (λ (x : Sparse). x.shape) ((are_scattered s laws q shape ys others).tiles r m) ∙ sym (ap (λ (x : Sparse). x.shape) ((are_scattered s laws q shape xs are).tiles r m))

  -- each block is a matrix with the entries of the other's
  pub joined_is_matrix : (r : ℕ) → r < length ys → IsMatrix s (with_entries (block_at xs r) (block_at ys r).entries)
  joined_is_matrix r l =
      let c = others.count in
      let m : r < q * q = omega arith in
      subst (λ (x : Sparse). IsMatrix s x) (sym (tile_of_both r m)) (tile_matrix shape t (block_tiling q shape are.some) s both r refl both_is_matrix)

  -- the blocks with the entries of the others' are those of both together
  pub blocks_joined : (new : List Sparse) → length new ≡ length xs → ((r : ℕ) → r < length ys → block_at new r ≡ with_entries (block_at xs r) (block_at ys r).entries) → AreBlocks s q shape new × (glued_blocks s q shape new ≡ both)
  blocks_joined new e h =
      let there : IsScattered t both.entries new = record {
        count = e ∙ are.count;
        tiles = λ r l. (let c = others.count in h r (omega arith)) ∙ tile_of_both r l;
      } in
      blocks_of s laws q are.some are.few both both_is_matrix new there

-- two matrices over one grid, of which the entries of the second all come after those of the first
pub record AreJoined (s : Arithmetic) (q : ℕ) (shape : Extent) (xs ys : List Sparse) (a b : Distributed) : Type 0 where
  pub are : AreBlocks s q shape xs
  pub others : AreBlocks s q shape ys
  pub order : All (λ d. All (IsBefore d) (glued_blocks s q shape ys).entries) (glued_blocks s q shape xs).entries
  pub whole : with_entries (glued_blocks s q shape xs) (glued_blocks s q shape ys).entries ≡ with_entries a.matrix b.matrix.entries

-- what is said of their values holds of their blocks
pub joined_blocks : (s : Arithmetic) (q k : ℕ) (shape size : Extent) (xs ys : List Sparse) (a b : Distributed) → AreBlocks s q shape xs → AreBlocks s k size ys
    → record { side = q; matrix = glued_blocks s q shape xs } ≡ a → record { side = k; matrix = glued_blocks s k size ys } ≡ b → b.side ≡ a.side → b.matrix.shape ≡ a.matrix.shape
    → All (λ d. All (IsBefore d) b.matrix.entries) a.matrix.entries → AreJoined s q shape xs ys a b
joined_blocks s q k shape size xs ys a b are others v w side same order =
    let sides : k ≡ q = ap (λ (d : Distributed). d.side) w ∙ side ∙ sym (ap (λ (d : Distributed). d.side) v) in
    let shapes : size ≡ shape = ap (λ (d : Distributed). d.matrix.shape) w ∙ same ∙ sym (ap (λ (d : Distributed). d.matrix.shape) v) in
    let first : glued_blocks s q shape xs ≡ a.matrix = ap (λ (d : Distributed). d.matrix) v in
    let last : glued_blocks s q shape ys ≡ b.matrix = (λ t. glued_blocks s (sym sides t) (sym shapes t) ys) ∙ ap (λ (d : Distributed). d.matrix) w in
    record {
      are = are;
      others = subst (λ (z : Extent). AreBlocks s q z ys) shapes (subst (λ (n : ℕ). AreBlocks s n size ys) sides others);
      order =
          subst (λ (x : Sparse). All (λ d. All (IsBefore d) x.entries) (glued_blocks s q shape xs).entries) (sym last)
          (subst (λ (x : Sparse). All (λ d. All (IsBefore d) b.matrix.entries) x.entries) (sym first) order);
      whole = λ t. with_entries (first t) (last t).entries;
    }

-- the blocks of the second have as many entries over the grid of the first
pub counted : (s : Arithmetic) (q k : ℕ) (shape size : Extent) (xs ys : List Sparse) (a b : Distributed) → AreJoined s q shape xs ys a b → record { side = q; matrix = glued_blocks s q shape xs } ≡ a → record { side = k; matrix = glued_blocks s k size ys } ≡ b
    → length (glued_blocks s k size ys).entries ≡ length (glued_blocks s q shape ys).entries
counted s q k shape size xs ys a b j v w =
    let whole = ap (λ (m : Sparse). length m.entries) j.whole in
    let first = ap (λ (d : Distributed). length d.matrix.entries) v in
    let last = ap (λ (d : Distributed). length d.matrix.entries) w in
    let sum = length-append (glued_blocks s q shape xs).entries (glued_blocks s q shape ys).entries in
    let both = length-append a.matrix.entries b.matrix.entries in
    omega arith
