-- A matrix in as many lists of entries as there are tiles.
use Rattle.std.proofs.Common.{◌≡◌, ◌≢◌, ℕ, ◌+◌, ◌<◌, ◌≤◌, List, [], ◌∷◌, ◌++◌, length, length-take, map, take, min, get_or, set, refl, sym, ap, subst, ⊎_elim, ◌∙◌, arith}
use Rattle.std.specs.Prelude.{All, AllPairs}
use Rattle.std.specs.List.{range_with_len}
use Rattle.std.proofs.lemmas.Bool.{cases_eq}
use Rattle.std.proofs.lemmas.List.{take_more, take_all, get_or-take, get_or_default, get_or-set_same, get_or-set_other, length-set}
use Rattle.std.proofs.lemmas.List.FromFn.{length-map-range_with_len, get_or-map-range_with_len}
use Rattle.std.proofs.lemmas.List.Elements.{All-take}
use Rattle.cb_semirings.specs.Arithmetic.{Arithmetic, IsSemiring, IsValue}
use Rattle.cb_matrix.specs.declared.Entry.{Entry}
use Rattle.cb_matrix.specs.Sparse.{Extent, Sparse, IsMatrix, at, IsBefore, IsInside}
use Rattle.cb_matrix.specs.Values.{matrix_of, empty_matrix}
use Rattle.cb_matrix.proofs.Equal.{matrix_is}
use Rattle.cb_dcsc.specs.Columns.{with_entry}
use Rattle.cb_grid.specs.Blocks.{block_at}
use Rattle.cb_grid.specs.Tiles.{Tiles}
use Rattle.cb_grid.proofs.Tiles.{IsTiling, owner_of, moved, tile_of, entries_of-none, entries_of-own, entries_of-other, moved_inside, tile_before, tile_matrix, tile_value}

-- each block has the entries of its tile
pub record IsScattered (t : Tiles) (es : List Entry) (blocks : List Sparse) : Type 0 where
  pub count : length blocks ≡ t.count
  pub tiles : (r : ℕ) → r < t.count → block_at blocks r ≡ tile_of t es r

-- blocks without entries have those of their tiles as long as no entry is taken
pub scattered_none : (t : Tiles) (blocks : List Sparse) → blocks ≡ map (λ r. empty_matrix (t.size r)) (range_with_len 0 t.count) → IsScattered t [] blocks
scattered_none t blocks h = record {
  count = ap length h ∙ length-map-range_with_len (λ r. empty_matrix (t.size r)) 0 t.count;
  tiles = λ r l.
      ap (λ bs. block_at bs r) h
      ∙ get_or-map-range_with_len (λ r. empty_matrix (t.size r)) 0 t.count r r (empty_matrix (record { rows = 0; cols = 0 })) l (omega arith)
      ∙ ap (λ es. record { shape = t.size r; entries = es }) (sym (entries_of-none t r));
}

-- one more entry, after all the others
module _ (shape : Extent) (t : Tiles) (is : IsTiling shape t) (es : List Entry) (inside : All (IsInside shape) es) (e : Entry) (here : IsInside shape e) (before : All (λ d. IsBefore d e) es) (blocks : List Sparse) (so_far : IsScattered t es blocks) where
  -- there is a block for the tile of the entry
  pub rank_of_one : owner_of t e < length blocks
  rank_of_one = let c = so_far.count in let o = is.owned e.row e.column here.0 here.1 in rw c o

  abbrev block : Sparse
  block = block_at blocks (owner_of t e)

  block_is : block ≡ tile_of t es (owner_of t e)
  block_is = so_far.tiles (owner_of t e) (is.owned e.row e.column here.0 here.1)

  -- at its place in its tile the entry is inside that block
  pub inside_of_one : IsInside block.shape (moved t e)
  inside_of_one = subst (λ (m : Sparse). IsInside m.shape (moved t e)) (sym block_is) (moved_inside shape t is (owner_of t e) e here refl)

  -- each entry that the block has comes before it
  pub order_of_one : All (λ d. IsBefore d (moved t e)) block.entries
  order_of_one = subst (λ (m : Sparse). All (λ d. IsBefore d (moved t e)) m.entries) (sym block_is) (tile_before shape t is (owner_of t e) es e inside before here refl)

  -- with the entry added to its block, the blocks have the entries of their tiles
  pub scattered_one : (new : List Sparse) → new ≡ set blocks (owner_of t e) (with_entry block (moved t e)) → IsScattered t (es ++ e ∷ []) new
  scattered_one new h = record {
    count = ap length h ∙ length-set blocks (owner_of t e) (with_entry block (moved t e)) ∙ so_far.count;
    tiles = λ r m.
        let none : Sparse = empty_matrix (record { rows = 0; cols = 0 }) in
        let one : Sparse = with_entry block (moved t e) in
        let own : block_at (set blocks (owner_of t e) one) (owner_of t e) ≡ tile_of t (es ++ e ∷ []) (owner_of t e) =
        get_or-set_same blocks (owner_of t e) one none rank_of_one
        ∙ ap (λ (b : Sparse). with_entry b (moved t e)) block_is
        ∙ ap (λ xs. record { shape = t.size (owner_of t e); entries = xs }) (sym (entries_of-own t (owner_of t e) es e refl)) in
        ap (λ bs. block_at bs r) h
        ∙ ⊎_elim
        (λ (o : owner_of t e ≡ r). subst (λ n. block_at (set blocks (owner_of t e) one) n ≡ tile_of t (es ++ e ∷ []) n) o own)
        (λ (o : owner_of t e ≢ r).
        get_or-set_other blocks (owner_of t e) r one none (λ p. o (sym p))
        ∙ so_far.tiles r m
        ∙ ap (λ xs. record { shape = t.size r; entries = xs }) (sym (entries_of-other t r es e o)))
        (cases_eq (owner_of t e) r);
  }

-- the kth entry, after those before it
module _ (shape : Extent) (t : Tiles) (is : IsTiling shape t) (all : List Entry) (inside : All (IsInside shape) all) (ascending : AllPairs IsBefore all) (k : ℕ) (x : Entry) (l : k < length all) (blocks : List Sparse) (so_far : IsScattered t (take k all) blocks) where
  abbrev e : Entry
  e = get_or all k x

  here : IsInside shape e
  here = inside k x l

  some_inside : All (IsInside shape) (take k all)
  some_inside = All-take (IsInside shape) k all inside

  before : All (λ d. IsBefore d e) (take k all)
  before i d m =
      let long : length (take k all) ≡ min k (length all) = length-take k all in
      let n : i < k = omega arith in
      let same : get_or (take k all) i d ≡ get_or all i x = get_or-take k all i d n ∙ get_or_default all i d x (omega arith) in
      subst (λ y. IsBefore y e) (sym same) (ascending i k x n l)

  -- there is a block for the tile of the next entry
  pub rank_there : owner_of t e < length blocks
  rank_there = rank_of_one shape t is (take k all) some_inside e here before blocks so_far

  abbrev there : Sparse
  there = block_at blocks (owner_of t e)

  -- at its place in its tile the next entry is inside that block
  pub inside_there : IsInside there.shape (moved t e)
  inside_there = inside_of_one shape t is (take k all) some_inside e here before blocks so_far

  -- each entry that the block has so far comes before it
  pub order_there : All (λ d. IsBefore d (moved t e)) there.entries
  order_there = order_of_one shape t is (take k all) some_inside e here before blocks so_far

  -- with the next entry added to its block, the blocks have the entries of their tiles among one more entry
  pub scattered_more : (new : List Sparse) → new ≡ set blocks (owner_of t e) (with_entry there (moved t e)) → IsScattered t (take (k + 1) all) new
  scattered_more new h =
      subst (λ es. IsScattered t es new) (sym (take_more all k x l)) (scattered_one shape t is (take k all) some_inside e here before blocks so_far new h)

-- what is owed when an entry is delivered to its block
pub record IsOwed (s : Arithmetic) (blocks : List Sparse) (n : ℕ) (e : Entry) : Type 0 where
  pub rank : n < length blocks
  pub inside : IsInside (block_at blocks n).shape e
  pub order : All (λ d. IsBefore d e) (block_at blocks n).entries
  pub value : IsValue s e.value
  pub not_zero : e.value ≢ s.zero

-- the next entry of a matrix, at its rank and with its place there, where the entries are read from a slice
module _ (s : Arithmetic) (m : Sparse) (is : IsMatrix s m) (tiles : Extent → Tiles) (tiling : IsTiling m.shape (tiles m.shape)) (entries : List Entry) (same : entries ≡ m.entries) (k : ℕ) (l : k < length entries) (blocks : List Sparse) (so_far : IsScattered (tiles m.shape) (take k m.entries) blocks)
    (shape : Extent) (own : shape ≡ m.shape) (x : Entry) (rank : ℕ) (local : Entry) (here : rank ≡ owner_of (tiles shape) (get_or entries k x)) (place : local ≡ moved (tiles shape) (get_or entries k x)) where
  within : k < length m.entries
  within = subst (λ es. k < length es) same l

  here_of : rank ≡ owner_of (tiles m.shape) (get_or m.entries k x)
  here_of = here ∙ (λ i. owner_of (tiles (own i)) (get_or (same i) k x))

  place_of : local ≡ moved (tiles m.shape) (get_or m.entries k x)
  place_of = place ∙ (λ i. moved (tiles (own i)) (get_or (same i) k x))

  pub next_is_owed : IsOwed s blocks rank local
  next_is_owed =
      subst (λ n. IsOwed s blocks n local) (sym here_of)
      (subst (λ e. IsOwed s blocks (owner_of (tiles m.shape) (get_or m.entries k x)) e) (sym place_of) (record {
        rank = rank_there m.shape (tiles m.shape) tiling m.entries is.inside is.ascending k x within blocks so_far;
        inside = inside_there m.shape (tiles m.shape) tiling m.entries is.inside is.ascending k x within blocks so_far;
        order = order_there m.shape (tiles m.shape) tiling m.entries is.inside is.ascending k x within blocks so_far;
        value = is.values k x within;
        not_zero = is.not_zero k x within;
      }))

  -- with it the blocks have the entries of their tiles among one more entry
  pub next_is_scattered : (new : List Sparse) → new ≡ set blocks rank (with_entry (block_at blocks rank) local) → IsScattered (tiles m.shape) (take (k + 1) m.entries) new
  next_is_scattered new h =
      scattered_more m.shape (tiles m.shape) tiling m.entries is.inside is.ascending k x within blocks so_far new
      (h ∙ (λ i. set blocks (here_of i) (with_entry (block_at blocks (here_of i)) (place_of i))))

-- all entries taken
pub scattered_all : (t : Tiles) (all entries : List Entry) (k : ℕ) (blocks : List Sparse) → entries ≡ all → length entries ≤ k → IsScattered t (take k all) blocks → IsScattered t all blocks
scattered_all t all entries k blocks same l h = subst (λ es. IsScattered t es blocks) (take_all k all (rw same at l)) h

-- each block has the values of its tile
pub tile_is : (s : Arithmetic) → IsSemiring s → (m : Sparse) (t : Tiles) → IsTiling m.shape t → IsMatrix s m → (blocks : List Sparse) → IsScattered t m.entries blocks → (r : ℕ) → r < t.count
    → (block_at blocks r ≡ matrix_of s (t.size r) (λ x y. at s m (t.top r + x) (t.left r + y))) × IsMatrix s (block_at blocks r)
tile_is s laws m t is matrix blocks h r l =
    let own = tile_matrix m.shape t is s m r refl matrix in (
      h.tiles r l ∙ matrix_is s laws (tile_of t m.entries r) (t.size r) (λ x y. at s m (t.top r + x) (t.left r + y)) own refl (λ x y p q. tile_value m.shape t is s.zero r x y m.entries l p q matrix.inside),
      subst (λ b. IsMatrix s b) (sym (h.tiles r l)) own,
    )
