-- Blocks over a grid, and the whole matrix that they glue to.
use Rattle.std.proofs.Common.{◌≡◌, ◌≢◌, ℕ, zero, suc, ◌+◌, ◌*◌, ◌/◌, ◌%◌, ◌<◌, ◌≤◌, true, false, cond, List, [], ◌∷◌, length, take, get_or, filter, refl, sym, ap, subst, ⊎_elim, ◌∙◌, arith}
use Rattle.std.specs.Prelude.{All, AllPairs, ◌==◌, ◌&&◌, sum_by}
use Rattle.std.proofs.lemmas.Bool.{cases_lt, eqb-true, eqb-false}
use Rattle.std.proofs.lemmas.Nat.{mod_below}
use Rattle.std.proofs.lemmas.List.{take_all}
use Rattle.std.proofs.lemmas.List.Sums.{sum_by_more}
use Rattle.std.proofs.lemmas.List.Elements.{All-nil, All-cons, All-head, All-tail, All-weaker, All-filter, All-map}
use Rattle.cb_semirings.specs.Arithmetic.{Arithmetic, IsSemiring}
use Rattle.cb_matrix.specs.declared.Entry.{Entry}
use Rattle.cb_matrix.specs.Sparse.{Extent, Sparse, IsMatrix, IsInside}
use Rattle.cb_matrix.specs.Values.{empty_matrix}
use Rattle.cb_dcsc.specs.Columns.{in_column, columns_with_entries, rows_of, values_of}
use Rattle.cb_dcsc.specs.Compressed.{entries_in}
use Rattle.cb_dcsc.proofs.NumbersOfColumns.{columns_all, entries_all}
use Rattle.cb_grid.specs.Parts.{part_start, part_length, part_shape}
use Rattle.cb_grid.specs.Blocks.{block_at, block_of, place_in_part, glued_blocks}
use Rattle.cb_layout.specs.Distributed.{AreBlocks}
use Rattle.cb_layout.specs.Fronts.{columns_in}
use Rattle.cb_layout.specs.Segments.{shifted}
use Rattle.cb_grid.specs.Tiles.{Tiles, block_tiles}
use Rattle.cb_grid.proofs.Parts.{row_of_rank, column_of_rank, rank_below, rank_of, row_below, own_below}
use Rattle.cb_grid.proofs.Tiles.{IsTiling, owner_of, moved, tile_of, entries_of, entries_of_back}
use Rattle.cb_grid.proofs.EntriesByTile.{IsScattered}
use Rattle.cb_grid.proofs.Cuts.{block_tiling}
use Rattle.cb_layout.proofs.GluedTiles.{glued_is_matrix, tile_is_cut, tile_is_part}
use Rattle.cb_layout.proofs.EntryCounts.{before, before_none, before_more, before_all, entries_below}
use Rattle.cb_layout.proofs.ColumnNumbers.{columns_ascend}

-- the entries of a column of a tile, with their places in the whole
pub column_there : (shape : Extent) (t : Tiles) → IsTiling shape t → (r c : ℕ) (es : List Entry) → All (IsInside shape) es
    → shifted (t.top r) (t.left r + c) (rows_of (in_column c (entries_of t r es))) (values_of (in_column c (entries_of t r es))) ≡ filter (λ e. (owner_of t e == r) && (t.column e.row e.column == c)) es
unfolding entries_of entries_in
column_there shape t is r c [] h = refl
column_there shape t is r c (e ∷ es) h =
    let inside : IsInside shape e = All-head (IsInside shape) e es h in
    let rest = column_there shape t is r c es (All-tail (IsInside shape) e es h) in
    let here : Entry → _ = λ (e : Entry). (owner_of t e == r) && (t.column e.row e.column == c) in
    elim (owner_of t e == r) as (λ b. (owner_of t e == r) ≡ b →
    shifted (t.top r) (t.left r + c) (rows_of (in_column c (cond b (moved t e ∷ entries_of t r es) (entries_of t r es)))) (values_of (in_column c (cond b (moved t e ∷ entries_of t r es) (entries_of t r es))))
    ≡ cond (b && (t.column e.row e.column == c)) (e ∷ filter here es) (filter here es)) [
      | true ↦ λ o.
          let own : owner_of t e ≡ r = eqb-true (owner_of t e) r o in
          let row : t.top r + t.row e.row e.column ≡ e.row = ap (λ n. t.top n + t.row e.row e.column) (sym own) ∙ is.rows e.row e.column inside.0 inside.1 in
          let column : t.left r + t.column e.row e.column ≡ e.column = ap (λ n. t.left n + t.column e.row e.column) (sym own) ∙ is.columns e.row e.column inside.0 inside.1 in
          elim (t.column e.row e.column == c) as (λ b. (t.column e.row e.column == c) ≡ b →
          shifted (t.top r) (t.left r + c) (rows_of (cond b (moved t e ∷ in_column c (entries_of t r es)) (in_column c (entries_of t r es)))) (values_of (cond b (moved t e ∷ in_column c (entries_of t r es)) (in_column c (entries_of t r es))))
          ≡ cond b (e ∷ filter here es) (filter here es)) [
            | true ↦ λ p.
                let at : t.left r + c ≡ e.column = ap (λ n. t.left r + n) (sym (eqb-true (t.column e.row e.column) c p)) ∙ column in
                λ i. record { row = row i; column = at i; value = e.value } ∷ rest i
            | false ↦ λ _. rest
          ] refl
      | false ↦ λ _. rest
    ] refl

none_in : (c : ℕ) (es : List Entry) → length (in_column c es) ≤ 0 → All (λ e. e.column ≢ c) es
none_in c [] h = All-nil (λ e. e.column ≢ c)
none_in c (e ∷ es) h =
    elim (e.column == c) as (λ b. (e.column == c) ≡ b → length (cond b (e ∷ in_column c es) (in_column c es)) ≤ 0 → All (λ e. e.column ≢ c) (e ∷ es)) [
      | true ↦ λ _ k. absurd (omega arith)
      | false ↦ λ f k. All-cons (λ e. e.column ≢ c) e es (eqb-false e.column c f) (none_in c es k)
    ] refl h

-- a column that has entries has one at least
pub some_in : (es : List Entry) (n : ℕ) → n < length (columns_with_entries es) → 0 < length (in_column (get_or (columns_with_entries es) n 0) es)
some_in es n l =
    let c = get_or (columns_with_entries es) n 0 in
    ⊎_elim
    (λ (k : 0 < length (in_column c es)). k)
    (λ (k : length (in_column c es) ≤ 0). absurd (columns_all (λ x. x ≢ c) es (none_in c es k) n 0 l refl))
    (cases_lt 0 (length (in_column c es)))

module _ (s : Arithmetic) (laws : IsSemiring s) (q : ℕ) (shape : Extent) (blocks : List Sparse) (are : AreBlocks s q shape blocks) where
  abbrev t : Tiles
  t = block_tiles q shape

  tiling : IsTiling shape (block_tiles q shape)
  tiling = block_tiling q shape are.some

  sizes : (r : ℕ) → r < q * q → (block_at blocks r).shape ≡ part_shape q shape (r / q) (r % q)
  sizes r l = ap (λ n. (block_at blocks n).shape) (sym (rank_of q r)) ∙ are.shapes (r / q) (r % q) (row_below q r l) (mod_below r q are.some)

  matrices : (r : ℕ) → r < q * q → IsMatrix s (block_at blocks r)
  matrices r l = are.matrices r (let c = are.count in omega arith)

  abbrev whole : Sparse
  whole = glued_blocks s q shape blocks

  -- it is a matrix
  pub whole_is_matrix : IsMatrix s whole
  whole_is_matrix = glued_is_matrix s laws shape t tiling (block_at blocks) sizes matrices

  -- the blocks are its cuts
  pub blocks_are_cuts : (i j : ℕ) → i < q → j < q → block_at blocks (i * q + j) ≡ block_of s q whole i j
  blocks_are_cuts i j l k =
      tile_is_cut s laws shape t tiling (block_at blocks) sizes matrices (i * q + j) (rank_below q i j l k)
      ∙ (λ n. block_of s q whole (row_of_rank q i j k n) (column_of_rank q i j k n))

  -- each has the entries that stand in it
  block_is_part : (r : ℕ) → r < q * q → block_at blocks r ≡ tile_of t whole.entries r
  block_is_part r l = tile_is_part s laws shape t tiling (block_at blocks) sizes matrices r l

  -- so they are the whole, in a list of entries for each block
  pub are_scattered : IsScattered t whole.entries blocks
  are_scattered = record { count = are.count; tiles = block_is_part }

  -- the columns with entries of a block ascend
  pub columns_up : (i j : ℕ) → i < q → j < q → AllPairs (λ c d. c < d) (columns_in q blocks j i)
  columns_up i j l k = columns_ascend (block_at blocks (i * q + j)).entries (matrices (i * q + j) (rank_below q i j l k)).ascending

  -- what holds of each of them holds of the place of each entry in it
  pub of_columns : (P : ℕ → Type 0) (i j : ℕ) → i < q → j < q → All P (columns_in q blocks j i) → All (λ e. owner_of t e ≡ i * q + j → P (place_in_part q shape.cols e.column)) whole.entries
  of_columns P i j l k h =
      let r = i * q + j in
      let own : All (λ e. P e.column) (block_at blocks r).entries = entries_all P (block_at blocks r).entries h in
      entries_of_back t r whole.entries (λ e. P e.column) (subst (λ (b : Sparse). All (λ (e : Entry). P e.column) b.entries) (block_is_part r (rank_below q i j l k)) own)

  module _ (i j : ℕ) (row : i < q) (column : j < q) where
    abbrev es : List Entry
    es = (block_at blocks (i * q + j)).entries

    es_inside : All (IsInside (part_shape q shape i j)) es
    es_inside = subst (λ size. All (IsInside size) es) (are.shapes i j row column) (matrices (i * q + j) (rank_below q i j row column)).inside

    -- each of its columns is inside the shape
    pub column_inside : (n : ℕ) → n < length (columns_in q blocks j i) → part_start q shape.cols j + get_or (columns_in q blocks j i) n 0 < shape.cols
    column_inside n l =
        own_below q shape.cols are.some j (get_or (columns_in q blocks j i) n 0)
        (columns_all (λ c. c < part_length q shape.cols j) es (All-weaker (IsInside (part_shape q shape i j)) (λ e. e.column < part_length q shape.cols j) (λ e k. k.1) es es_inside) n 0 l)

    -- and each row of one of them
    pub rows_inside : (c : ℕ) → All (λ x. part_start q shape.rows i + x < shape.rows) (rows_of (in_column c es))
    rows_inside c =
        All-map (λ x. part_start q shape.rows i + x < shape.rows) (λ (e : Entry). e.row) (in_column c es)
        (All-filter (λ (e : Entry). e.column == c) (λ (e : Entry). part_start q shape.rows i + e.row < shape.rows) es (All-weaker (IsInside (part_shape q shape i j)) (λ e. part_start q shape.rows i + e.row < shape.rows) (λ e k. own_below q shape.rows are.some i e.row k.0) es es_inside))

    -- the entries of a column of a block, with their places in the whole
    pub column_is : (c top column' : ℕ) (rows values : List ℕ) → top ≡ part_start q shape.rows i → column' ≡ part_start q shape.cols j + c → rows ≡ rows_of (in_column c es) → values ≡ values_of (in_column c es)
        → shifted top column' rows values ≡ filter (λ e. (owner_of t e == i * q + j) && (place_in_part q shape.cols e.column == c)) whole.entries
    column_is c top column' rows values p k a b =
        let r = i * q + j in
        let part : (block_at blocks r).entries ≡ entries_of t r whole.entries = ap (λ (b : Sparse). b.entries) (block_is_part r (rank_below q i j row column)) in
        let at_row : top ≡ part_start q shape.rows (r / q) = p ∙ ap (part_start q shape.rows) (sym (row_of_rank q i j column)) in
        let at_column : column' ≡ part_start q shape.cols (r % q) + c = k ∙ ap (λ n. part_start q shape.cols n + c) (sym (column_of_rank q i j column)) in
        (λ n. shifted (at_row n) (at_column n) ((a ∙ ap (λ xs. rows_of (in_column c xs)) part) n) ((b ∙ ap (λ xs. values_of (in_column c xs)) part) n))
        ∙ column_there shape t tiling r c whole.entries whole_is_matrix.inside

  -- the blocks below the nth have as many entries as stand in them
  pub counted_to : (n : ℕ) → n ≤ q * q → sum_by (λ (b : Sparse). length b.entries) (take n blocks) ≡ length (before t n whole.entries)
  counted_to zero l = sym (before_none t whole.entries)
  counted_to (suc n) l =
      let e : suc n ≡ n + 1 = omega arith in
      let none : Sparse = empty_matrix (record { rows = 0; cols = 0 }) in
      let known : n < length blocks = let c = are.count in omega arith in
      let below : n < q * q = omega arith in
      let rest = counted_to n (omega arith) in
      let own : length (block_at blocks n).entries ≡ length (entries_of t n whole.entries) = ap (λ (b : Sparse). length b.entries) (block_is_part n below) in
      let more = before_more t n whole.entries in
      let sum = sum_by_more (λ (b : Sparse). length b.entries) blocks n none known in
      rw e (omega arith)

  -- all blocks together have the entries of the whole
  pub counted_all : sum_by (λ (b : Sparse). length b.entries) blocks ≡ length whole.entries
  counted_all =
      let c = are.count in
      let all : take (q * q) blocks ≡ blocks = take_all (q * q) blocks (omega arith) in
      ap (sum_by (λ (b : Sparse). length b.entries)) (sym all)
      ∙ counted_to (q * q) (omega arith)
      ∙ before_all t (q * q) whole.entries (λ k d l. let in_shape = whole_is_matrix.inside k d l in tiling.owned _ _ in_shape.0 in_shape.1)

  -- they are fewer than 2^62
  pub counted_below : shape.rows ≤ 2147483647 → shape.cols ≤ 2147483647 → length whole.entries < 4611686018427387904
  counted_below rows cols = entries_below shape whole.entries rows cols whole_is_matrix.inside whole_is_matrix.ascending
