-- The pieces of vectors are tiles.
use Rattle.std.proofs.Common.{◌≡◌, ℕ, zero, suc, ◌+◌, ◌-◌, ◌*◌, ◌/◌, ◌%◌, ◌<◌, true, false, List, ◌++◌, length, map, refl, sym, ap, subst, ◌∙◌, arith}
use Rattle.std.specs.Prelude.{All, nat_lt}
use Rattle.std.proofs.lemmas.Bool.Decides.{nat_tests}
use Rattle.std.proofs.lemmas.List.Elements.{All-map, All-weaker}
use Rattle.cb_semirings.specs.Arithmetic.{Arithmetic, IsSemiring}
use Rattle.cb_matrix.specs.declared.Entry.{Entry}
use Rattle.cb_matrix.specs.Sparse.{Extent, Sparse, IsMatrix, IsInside, at}
use Rattle.cb_matrix.specs.Values.{matrix_of, collected}
use Rattle.cb_matrix.proofs.Made.{at-matrix_of}
use Rattle.cb_matrix.proofs.Equal.{matrix_is}
use Rattle.cb_dcsc.specs.Columns.{rows_of, values_of}
use Rattle.cb_grid.specs.Parts.{part_start, part_length}
use Rattle.cb_grid.specs.Blocks.{block_at, part_with, place_in_part}
use Rattle.cb_grid.specs.Pieces.{piece_start, piece_shape, piece_of}
use Rattle.cb_plan_vectors.specs.Vectors.{piece_with, place_in_piece, glued_pieces}
use Rattle.cb_plan_vectors.specs.PieceTiles.{input_tiles, result_tiles, IsGathered, before_rank}
use Rattle.cb_layout.specs.Segments.{shifted}
use Rattle.cb_grid.proofs.Parts.{row_of_rank, column_of_rank, rank_below, rank_of, row_below, part_below, start_there, place_below, own_below, own_part}
use Rattle.cb_grid.proofs.Tiles.{IsTiling}
use Rattle.cb_layout.proofs.GluedTiles.{tile_is_cut}
use Rattle.cb_grid.proofs.EntriesByTile.{IsScattered, tile_is}
use Rattle.cb_plan_vectors.proofs.PlacedEntries.{placed_column, gathered_more, gathered_same, gathered_all}
use Rattle.std.proofs.lemmas.Nat.{mod_below}

module _ (q d : ℕ) (pos : 0 < q) where
  pub piece_below : (r : ℕ) → r < d → piece_with q d r < q
  piece_below r l = part_below q (part_length q d (part_with q d r)) pos (place_in_part q d r) (place_below q d pos r l)

  pub piece_there : (r : ℕ) → r < d → piece_start q d (part_with q d r) (piece_with q d r) + place_in_piece q d r ≡ r
  piece_there r l =
      let a = start_there q d pos r l in
      let b = start_there q (part_length q d (part_with q d r)) pos (place_in_part q d r) (place_below q d pos r l) in
      omega arith

  pub place_in_piece_below : (r : ℕ) → r < d → place_in_piece q d r < part_length q (part_length q d (part_with q d r)) (piece_with q d r)
  place_in_piece_below r l = place_below q (part_length q d (part_with q d r)) pos (place_in_part q d r) (place_below q d pos r l)

  -- a place of a piece, as a place of its part
  own_place : (p t x : ℕ) → x < part_length q (part_length q d p) t → part_start q (part_length q d p) t + x < part_length q d p
  own_place p t x l = own_below q (part_length q d p) pos t x l

  moved_place : (p t x : ℕ) → piece_start q d p t + x ≡ part_start q d p + (part_start q (part_length q d p) t + x)
  moved_place p t x = omega arith

  pub own_row : (p t x : ℕ) → x < part_length q (part_length q d p) t → piece_start q d p t + x < d
  own_row p t x l = let k = own_below q d pos p (part_start q (part_length q d p) t + x) (own_place p t x l) in omega arith

  pub own_part_of_piece : (p t x : ℕ) → x < part_length q (part_length q d p) t → part_with q d (piece_start q d p t + x) ≡ p
  own_part_of_piece p t x l = ap (part_with q d) (moved_place p t x) ∙ own_part q d pos p (part_start q (part_length q d p) t + x) (own_place p t x l)

  own_place_in_part : (p t x : ℕ) → x < part_length q (part_length q d p) t → place_in_part q d (piece_start q d p t + x) ≡ part_start q (part_length q d p) t + x
  own_place_in_part p t x l =
      let there = start_there q d pos (piece_start q d p t + x) (own_row p t x l) in
      let same = ap (λ n. part_start q d n + place_in_part q d (piece_start q d p t + x)) (sym (own_part_of_piece p t x l)) in
      let move = moved_place p t x in
      omega arith

  pub own_piece : (p t x : ℕ) → x < part_length q (part_length q d p) t → piece_with q d (piece_start q d p t + x) ≡ t
  own_piece p t x l =
      (λ i. part_with q (part_length q d (own_part_of_piece p t x l i)) (own_place_in_part p t x l i)) ∙ own_part q (part_length q d p) pos t x l

-- the pieces of an input, by rank, cut a vector into tiles
pub input_tiling : (q : ℕ) (shape : Extent) → 0 < q → IsTiling shape (input_tiles q shape)
input_tiling q shape pos =
    let d = shape.rows in
    let row : (r : ℕ) → r < d → (piece_with q d r * q + part_with q d r) / q ≡ piece_with q d r = λ r l. row_of_rank q (piece_with q d r) (part_with q d r) (part_below q d pos r l) in
    let column : (r : ℕ) → r < d → (piece_with q d r * q + part_with q d r) % q ≡ part_with q d r = λ r l. column_of_rank q (piece_with q d r) (part_with q d r) (part_below q d pos r l) in
    record {
      owned = λ i j l m. rank_below q (piece_with q d i) (part_with q d i) (piece_below q d pos i l) (part_below q d pos i l);
      rows = λ i j l m. (λ t. piece_start q d (column i l t) (row i l t) + place_in_piece q d i) ∙ piece_there q d pos i l;
      columns = λ i j l m. omega arith;
      row_below = λ i j l m. subst (λ n. place_in_piece q d i < n) (λ t. part_length q (part_length q d (sym (column i l) t)) (sym (row i l) t)) (place_in_piece_below q d pos i l);
      column_below = λ i j l m. m;
      own = λ r x y l m n. (λ t. own_piece q d pos (r % q) (r / q) x m t * q + own_part_of_piece q d pos (r % q) (r / q) x m t) ∙ rank_of q r;
      inside = λ r x y l m n. (own_row q d pos (r % q) (r / q) x m, omega arith);
    }

-- and so do the pieces of a result
pub result_tiling : (q : ℕ) (shape : Extent) → 0 < q → IsTiling shape (result_tiles q shape)
result_tiling q shape pos =
    let d = shape.rows in
    let row : (r : ℕ) → r < d → (part_with q d r * q + piece_with q d r) / q ≡ part_with q d r = λ r l. row_of_rank q (part_with q d r) (piece_with q d r) (piece_below q d pos r l) in
    let column : (r : ℕ) → r < d → (part_with q d r * q + piece_with q d r) % q ≡ piece_with q d r = λ r l. column_of_rank q (part_with q d r) (piece_with q d r) (piece_below q d pos r l) in
    record {
      owned = λ i j l m. rank_below q (part_with q d i) (piece_with q d i) (part_below q d pos i l) (piece_below q d pos i l);
      rows = λ i j l m. (λ t. piece_start q d (row i l t) (column i l t) + place_in_piece q d i) ∙ piece_there q d pos i l;
      columns = λ i j l m. omega arith;
      row_below = λ i j l m. subst (λ n. place_in_piece q d i < n) (λ t. part_length q (part_length q d (sym (row i l) t)) (sym (column i l) t)) (place_in_piece_below q d pos i l);
      column_below = λ i j l m. m;
      own = λ r x y l m n. (λ t. own_part_of_piece q d pos (r / q) (r % q) x m t * q + own_piece q d pos (r / q) (r % q) x m t) ∙ rank_of q r;
      inside = λ r x y l m n. (own_row q d pos (r / q) (r % q) x m, omega arith);
    }

-- a piece as a matrix of its values
same_cut : (s : Arithmetic) (q : ℕ) (m : Sparse) (i t : ℕ) → matrix_of s (piece_shape q m.shape i t) (λ x y. at s m (piece_start q m.shape.rows i t + x) (0 + y)) ≡ piece_of s q m i t
same_cut s q m i t =
    let d = m.shape.rows in
    let rows : part_length q (part_length q d i) t ≡ piece_start q d i (t + 1) - piece_start q d i t = omega arith in
    let cols : m.shape.cols ≡ m.shape.cols - 0 = omega arith in
    λ k. matrix_of s (record { rows = rows k; cols = cols k }) (λ x y. at s m (piece_start q d i t + x) (0 + y))

module _ (s : Arithmetic) (laws : IsSemiring s) (q : ℕ) (pos : 0 < q) (m : Sparse) (matrix : IsMatrix s m) where
  -- lists of entries that stand in their tiles are the pieces of the vector
  pub piece_is : (blocks : List Sparse) → IsScattered (input_tiles q m.shape) m.entries blocks → (t j : ℕ) → t < q → j < q
      → (block_at blocks (t * q + j) ≡ piece_of s q m j t) × IsMatrix s (block_at blocks (t * q + j))
  piece_is blocks h t j l k =
      let both = tile_is s laws m (input_tiles q m.shape) (input_tiling q m.shape pos) matrix blocks h (t * q + j) (rank_below q t j l k) in
      let a = row_of_rank q t j k in
      let b = column_of_rank q t j k in
      (both.0 ∙ (λ i. matrix_of s (piece_shape q m.shape (b i) (a i)) (λ x y. at s m (piece_start q m.shape.rows (b i) (a i) + x) (0 + y))) ∙ same_cut s q m j t, both.1)

  -- the pieces that a vector is cut into glue to that vector
  pub glued_pieces_cut : (block : ℕ → ℕ → Sparse) → ((i t : ℕ) → i < q → t < q → block i t ≡ piece_of s q m i t) → glued_pieces s q m.shape block ≡ m
  glued_pieces_cut block h =
      let d = m.shape.rows in
      sym (matrix_is s laws m m.shape
      (λ r k. at s (block (part_with q d r) (piece_with q d r)) (place_in_piece q d r) k)
      matrix refl (λ r k l n.
      let p = part_with q d r in
      let t = piece_with q d r in
      let e : 0 + k ≡ k = omega arith in
      sym (ap (λ (b : Sparse). at s b (place_in_piece q d r) k) (h p t (part_below q d pos r l) (piece_below q d pos r l) ∙ sym (same_cut s q m p t))
      ∙ at-matrix_of s (piece_shape q m.shape p t) (λ x y. at s m (piece_start q d p t + x) (0 + y)) (place_in_piece q d r) k (place_in_piece_below q d pos r l) n
      ∙ (λ i. at s m (piece_there q d pos r l i) (e i)))))

module _ (s : Arithmetic) (q : ℕ) (pos : 0 < q) (shape : Extent) (one : shape.cols ≡ 1) (blocks : List Sparse) (count : length blocks ≡ q * q)
    (shapes : (i t : ℕ) → i < q → t < q → (block_at blocks (i * q + t)).shape ≡ piece_shape q shape i t)
    (matrices : (r : ℕ) → r < length blocks → IsMatrix s (block_at blocks r)) where
  module _ (r : ℕ) (known : r < q * q) where
    abbrev es : List Entry
    es = (block_at blocks r).entries

    is_matrix : IsMatrix s (block_at blocks r)
    is_matrix = matrices r (rw count known)

    own_shape : (block_at blocks r).shape ≡ piece_shape q shape (r / q) (r % q)
    own_shape =
        let rank : (r / q) * q + r % q ≡ r = rank_of q r in
        ap (λ n. (block_at blocks n).shape) (sym rank) ∙ shapes (r / q) (r % q) (row_below q r known) (mod_below r q pos)

    es_inside : All (IsInside (piece_shape q shape (r / q) (r % q))) es
    es_inside = subst (λ size. All (IsInside size) es) own_shape is_matrix.inside

    -- the rows of a rank's piece, counted from the piece's start, are rows of the vector
    pub piece_fits : All (λ x. piece_start q shape.rows (r / q) (r % q) + x < shape.rows) (rows_of es)
    piece_fits =
        All-map (λ x. piece_start q shape.rows (r / q) (r % q) + x < shape.rows) (λ (e : Entry). e.row) es
        (All-weaker (IsInside (piece_shape q shape (r / q) (r % q))) (λ e. piece_start q shape.rows (r / q) (r % q) + e.row < shape.rows) (λ e k. own_row q shape.rows pos (r / q) (r % q) e.row k.0) es es_inside)

    -- with the entries of one more piece, those of all ranks up to its own are gathered
    pub piece_more : (out new : List Entry) (start : ℕ) → start ≡ piece_start q shape.rows (r / q) (r % q)
        → new ≡ out ++ shifted start 0 (rows_of es) (values_of es)
        → IsGathered s shape (result_tiles q shape) (before_rank blocks r) out → IsGathered s shape (result_tiles q shape) (before_rank blocks (r + 1)) new
    piece_more out new start p h so_far =
        let t : nat_lt r (r + 1) ≡ true = grind (arith, nat_tests) in
        let f : nat_lt r r ≡ false = grind (arith, nat_tests) in
        gathered_more s shape (result_tiles q shape) (result_tiling q shape pos) (before_rank blocks r) (before_rank blocks (r + 1)) out new es r known es_inside is_matrix.values
        (rw (t, f) refl)
        (λ n l ne. let same : nat_lt n (r + 1) ≡ nat_lt n r = grind (arith, nat_tests) in rw same refl)
        (h ∙ ap (λ xs. out ++ xs) (placed_column start 0 es 0 0 (omega arith) (All-weaker (IsInside (piece_shape q shape (r / q) (r % q))) (λ e. e.column ≡ 0) (λ e k. let l = k.1 in omega arith) es es_inside)
        ∙ (λ i. map (λ e. let d : Entry = record { row = p i + e.row; column = 0 + e.column; value = e.value } in d) es)))
        so_far

  -- the pieces are cuts of the vector that they glue to
  pub pieces_are_cuts : IsSemiring s → (i t : ℕ) → i < q → t < q → block_at blocks (i * q + t) ≡ piece_of s q (glued_pieces s q shape (λ i t. block_at blocks (i * q + t))) i t
  pieces_are_cuts laws i t l k =
      let m = glued_pieces s q shape (λ i t. block_at blocks (i * q + t)) in
      tile_is_cut s laws shape (result_tiles q shape) (result_tiling q shape pos) (block_at blocks) (λ r l. own_shape r l) (λ r l. is_matrix r l) (i * q + t) (rank_below q i t l k)
      ∙ (λ n. matrix_of s (piece_shape q shape (row_of_rank q i t k n) (column_of_rank q i t k n)) (λ x y. at s m (piece_start q shape.rows (row_of_rank q i t k n) (column_of_rank q i t k n) + x) (0 + y)))
      ∙ same_cut s q m i t

  -- the entries of all pieces make the vector that the pieces glue to
  pub pieces_all : IsSemiring s → (out : List Entry) (n : ℕ) → n ≡ q * q → IsGathered s shape (result_tiles q shape) (before_rank blocks n) out → collected s shape out ≡ glued_pieces s q shape (λ i t. block_at blocks (i * q + t))
  pieces_all laws out n e h =
      gathered_all s laws shape (result_tiles q shape) (result_tiling q shape pos) (block_at blocks) (λ r l. matrices r (rw count l)) out
      (gathered_same s shape (result_tiles q shape) (before_rank blocks n) (λ r. (block_at blocks r).entries) out (λ r l.
      let t : nat_lt r n ≡ true = grind (arith, nat_tests) in
      rw t refl) h)

-- a grid that has ranks has a side
pub some_side : (q n : ℕ) → n < q * q → 0 < q
some_side zero n l = absurd (omega arith)
some_side (suc q) n l = omega arith
