-- What the plan for writing leaves: the panels of the matrix.
use Rattle.std.proofs.Common.{◌≡◌, ◌≢◌, ℕ, zero, suc, ◌+◌, ◌-◌, ◌*◌, ◌/◌, ◌%◌, ◌<◌, ◌≤◌, true, false, cond, [], ◌∷◌, ◌++◌, map, refl, sym, ap, ◌∙◌, arith}
use Rattle.std.specs.Prelude.{Option, Some, ◌&&◌, nat_le, nat_lt}
use Rattle.std.specs.List.{range_with_len}
use Rattle.std.proofs.lemmas.Bool.Decides.{nat_tests}
use Rattle.cb_semirings.specs.Arithmetic.{Arithmetic, IsValue, IsSemiring}
use Rattle.cb_matrix.specs.Sparse.{Sparse, Extent, IsMatrix, at}
use Rattle.cb_matrix.specs.Values.{matrix_of}
use Rattle.cb_matrix.specs.Operations.{cut, placed, is_covered, sum_of}
use Rattle.cb_matrix.proofs.Made.{at-matrix_of, same_matrix_of}
use Rattle.cb_matrix.proofs.Totals.{add_zero, value_at-value}
use Rattle.cb_grid.specs.Parts.{part, part_start, part_length, part_shape}
use Rattle.cb_grid.specs.Blocks.{block_of}
use Rattle.cb_grid.specs.Pieces.{piece, piece_start}
use Rattle.cb_grid.proofs.Parts.{rank_below}
use Rattle.cb_plan.specs.declared.acts.Op.TheVariants as op_is
use Rattle.cb_plan.specs.Meaning.{Algebra, State, meaning, one}
use Rattle.cb_plan.specs.Algebras.{matrices}
use Rattle.cb_plan.proofs.Effects.{split, meaning-append}
use Rattle.cb_plan_parts.specs.Collectives.{shut_acts}
use Rattle.cb_plan_parts.specs.PlanParts.{tagged}
use Rattle.cb_plan_parts.proofs.Grid.{at_place}
use Rattle.cb_plan_parts.proofs.PartStarts.{start_zero, start_rises, start_within, start_last}
use Rattle.cb_plan_parts.proofs.ShutMeaning.{shut_nothing}
use Rattle.cb_plan_operations.specs.VectorPlans.{each_works}
use Rattle.cb_plan_operations.proofs.RankPrograms.{after_ops, after_ops-append, each_works_here}
use Rattle.cb_plan_operations.proofs.VectorSteps.{summed, yes}
use Rattle.cb_plan_transfers.specs.Rounds.{column_cuts, column_exchanges, sent_away, sums}
use Rattle.cb_plan_transfers.specs.Panels.{IsPanelsPlan, panel_of, cuts_at, placed_part, joined_parts, joined_at, panels_acts}
use Rattle.cb_plan_transfers.proofs.ReceivedBlocks.{op_skips, ops_skip, ops_set, cuts_made, sums_made}
use Rattle.cb_plan_transfers.proofs.RoundsMeaning.{columns_exchange}

-- ---- the slots after each step, over blocks of any kind
module _ {M : Type 0} (ops : Algebra M) (q : ℕ) (shape : Extent) (state : State M) (block : ℕ → ℕ → M) (has : (i j : ℕ) → i < q → j < q → state (i * q + j) 0 ≡ Some (block i j)) where
  -- piece k of the columns of block (i, j)
  abbrev pub piece_at : ℕ → ℕ → ℕ → M
  piece_at i j k = ops.cut (0, part_length q shape.rows i) (part q (part_length q shape.cols j) k) (block i j)

  abbrev after_cuts : State M
  after_cuts = meaning ops (each_works q (cuts_at q shape)) state

  pieces_cut : (i j k : ℕ) → i < q → j < q → k < q → after_cuts (i * q + j) (1 + k) ≡ Some (piece_at i j k)
  pieces_cut i j k l m o =
      let slots = state (i * q + j) in
      let cuts = column_cuts q (part_shape q shape ((i * q + j) / q) ((i * q + j) % q)) in
      ap (λ sl. sl (1 + k)) (each_works_here ops q (cuts_at q shape) state (i * q + j) (rank_below q i j l m) ∙ after_ops-append ops cuts (op_is.Clear 0 ∷ []) slots)
      ∙ op_skips ops (op_is.Clear 0) (1 + k) (after_ops ops cuts slots) (let ne : 0 ≢ 1 + k = omega arith in ne)
      ∙ cuts_made ops 0 (λ _. (0, part_length q shape.rows ((i * q + j) / q))) (part q (part_length q shape.cols ((i * q + j) % q))) q (state (i * q + j)) (block i j) k o (λ h _. let ne : 1 + h ≢ 0 = omega arith in ne) (has i j l m)
      ∙ at_place (λ x y. Some (ops.cut (0, part_length q shape.rows x) (part q (part_length q shape.cols y) k) (block i j))) q i j m

  abbrev after_exchange : State M
  after_exchange = meaning ops (column_exchanges q (tagged 1)) after_cuts

  -- each rank has its piece of each block of its column
  pieces_come : (i j k : ℕ) → i < q → j < q → k < q → after_exchange (k * q + j) (1 + q + i) ≡ Some (piece_at i j k)
  pieces_come i j k l m o = columns_exchange ops q (tagged 1) after_cuts i j k l m o ∙ pieces_cut i j k l m o

  -- ---- each rank puts them together
  places_make : (left : ℕ) (slots : ℕ → Option M) (parts : ℕ → M) → ((i : ℕ) → i < q → slots (1 + q + i) ≡ Some (parts i)) → (i : ℕ) → i < q →
      after_ops ops (map (placed_part q shape left) (range_with_len 0 q)) slots (1 + q + i) ≡ Some (ops.place shape (part_start q shape.rows i, left) (parts i))
  places_make left slots parts come i l =
      let put = ops.place shape (part_start q shape.rows i, left) in
      ops_set ops (placed_part q shape left) (1 + q + i) i (λ sl. one put (sl (1 + q + i))) 0 q slots (omega arith) (omega arith)
      (λ sl. rw (yes (1 + q + i)) refl)
      (λ h ne. let other : 1 + q + h ≢ 1 + q + i = omega (arith, ne) in other)
      (λ h _ b sl. ap (one put) (op_skips ops (placed_part q shape left h) (1 + q + i) sl (let ne : 1 + q + h ≢ 1 + q + i = omega arith in ne)))
      ∙ ap (one put) (come i l)

  -- piece k of the columns of block (i, j), in its place in the whole shape
  abbrev pub placed_at : ℕ → ℕ → ℕ → M
  placed_at j k i = ops.place shape (part_start q shape.rows i, piece_start q shape.cols j k) (piece_at i j k)

  joined_make : (k j : ℕ) → k < q → j < q → after_ops ops (sent_away q ++ joined_parts q shape (piece_start q shape.cols j k)) (after_exchange (k * q + j)) (1 + q) ≡ Some (summed ops (placed_at j k) (q - 1))
  joined_make k j l m =
      let left = piece_start q shape.cols j k in
      let puts = map (placed_part q shape left) (range_with_len 0 q) in
      let come = after_exchange (k * q + j) in
      let left_over = after_ops ops (sent_away q) come in
      let kept : (i : ℕ) → i < q → left_over (1 + q + i) ≡ Some (piece_at i j k) =
      λ i o. ops_skip ops (λ h. op_is.Clear (1 + h)) (1 + q + i) 0 q come (λ h b. let ne : 1 + h ≢ 1 + q + i = omega arith in ne) ∙ pieces_come i j k o m l in
      ap (λ s. s (1 + q)) (after_ops-append ops (sent_away q) (puts ++ sums (1 + q) q) come ∙ after_ops-append ops puts (sums (1 + q) q) left_over)
      ∙ sums_made ops (placed_at j k) (1 + q) q (after_ops ops puts left_over) (omega arith)
      (λ i o. places_make left left_over (λ i. piece_at i j k) kept i o)

  -- after all acts each rank has the sum of what was placed
  pub parts_joined : (k j : ℕ) → k < q → j < q → meaning ops (panels_acts q shape) state (k * q + j) (1 + q) ≡ Some (summed ops (placed_at j k) (q - 1))
  parts_joined k j l m =
      let sent = column_exchanges q (tagged 1) in
      let joins = each_works q (joined_at q shape) in
      let cuts = each_works q (cuts_at q shape) in
      ap (λ st. st (k * q + j) (1 + q)) (meaning-append ops (cuts ++ (sent ++ joins)) (shut_acts (q * q)) state
      ∙ shut_nothing ops (q * q) (meaning ops (cuts ++ (sent ++ joins)) state)
      ∙ meaning-append ops cuts (sent ++ joins) state
      ∙ meaning-append ops sent joins after_cuts)
      ∙ ap (λ slots. slots (1 + q)) (each_works_here ops q (joined_at q shape) after_exchange (k * q + j) (rank_below q k j l m))
      ∙ at_place (λ x y. after_ops ops (sent_away q ++ joined_parts q shape (piece_start q shape.cols y x)) (after_exchange (k * q + j)) (1 + q)) q k j m
      ∙ joined_make k j l m

-- ---- over a semiring: the panel of rank (k, j)
module _ (s : Arithmetic) (laws : IsSemiring s) (q : ℕ) (pos : 0 < q) (m : Sparse) (is_m : IsMatrix s m) (k j : ℕ) where
  abbrev width : ℕ
  width = part_length q m.shape.cols j

  abbrev left : ℕ
  left = piece_start q m.shape.cols j k

  abbrev right : ℕ
  right = piece_start q m.shape.cols j (k + 1)

  is_value : (x y : ℕ) → IsValue s (at s m x y)
  is_value x y = value_at-value s laws m.entries x y is_m.values

  -- the panel, of which only the rows above row part i are there
  abbrev front : ℕ → ℕ → ℕ → ℕ
  front i x y = cond (nat_lt x (part_start q m.shape.rows i) && (nat_le left y && nat_lt y right)) (at s m x y) s.zero

  -- piece k of the columns of block (i, j)
  abbrev own : ℕ → Sparse
  own i = cut s (0, part_length q m.shape.rows i) (part q width k) (block_of s q m i j)

  abbrev placed_own : ℕ → Sparse
  placed_own i = placed s m.shape (part_start q m.shape.rows i, left) (own i)

  own_value : (i x y : ℕ) → x < part_length q m.shape.rows i → y < right - left → at s (own i) x y ≡ at s m (part_start q m.shape.rows i + x) (left + y)
  own_value i x y l o =
      let up = start_rises q width k in
      let inside = start_within q width (k + 1) in
      let e : 0 + x ≡ x = omega arith in
      let f : part_start q m.shape.cols j + (part_start q width k + y) ≡ left + y = omega arith in
      at-matrix_of s (record { rows = part_length q m.shape.rows i - 0; cols = part_start q width (k + 1) - part_start q width k }) (λ x y. at s (block_of s q m i j) (0 + x) (part_start q width k + y)) x y (omega arith) (omega arith)
      ∙ at-matrix_of s (part_shape q m.shape i j) (λ x y. at s m (part_start q m.shape.rows i + x) (part_start q m.shape.cols j + y)) (0 + x) (part_start q width k + y) (omega arith) (omega arith)
      ∙ ap (λ r. at s m (part_start q m.shape.rows i + r) (part_start q m.shape.cols j + (part_start q width k + y))) e
      ∙ ap (at s m (part_start q m.shape.rows i + x)) f

  placed_value : (i x y : ℕ) → x < m.shape.rows → y < m.shape.cols → at s (placed_own i) x y
      ≡ cond ((nat_le (part_start q m.shape.rows i) x && nat_lt x (part_start q m.shape.rows (i + 1))) && (nat_le left y && nat_lt y right)) (at s m x y) s.zero
  placed_value i x y l o =
      let first = part_start q m.shape.rows i in
      let last = part_start q m.shape.rows (i + 1) in
      let down = start_rises q m.shape.rows i in
      let up = start_rises q width k in
      at-matrix_of s m.shape (λ x y. cond (is_covered (first, left) (own i).shape x y) (at s (own i) (x - first) (y - left)) s.zero) x y l o
      ∙ split ((nat_le first x && nat_lt x last) && (nat_le left y && nat_lt y right))
      (λ t.
      let a : first ≤ x = grind (arith, nat_tests) in
      let b : x < last = grind (arith, nat_tests) in
      let c : left ≤ y = grind (arith, nat_tests) in
      let d : y < right = grind (arith, nat_tests) in
      let u : is_covered (first, left) (own i).shape x y ≡ true = grind (arith, nat_tests) in
      let e : first + (x - first) ≡ x = omega arith in
      let f : left + (y - left) ≡ y = omega arith in
      rw (t, u) (own_value i (x - first) (y - left) (omega arith) (omega arith) ∙ ap (λ r. at s m r (left + (y - left))) e ∙ ap (at s m x) f))
      (λ t.
      let u : is_covered (first, left) (own i).shape x y ≡ false = grind (arith, nat_tests) in
      rw (t, u) refl)

  front_first : placed_own 0 ≡ matrix_of s m.shape (front 1)
  front_first =
      let first = part_start q m.shape.rows 0 in
      same_matrix_of s m.shape (λ x y. cond (is_covered (first, left) (own 0).shape x y) (at s (own 0) (x - first) (y - left)) s.zero) (front 1) (λ x y l o.
      let e : first ≡ 0 = start_zero q m.shape.rows in
      let u : (nat_le first x && nat_lt x (part_start q m.shape.rows 1)) ≡ nat_lt x (part_start q m.shape.rows 1) = grind (arith, nat_tests) in
      sym (at-matrix_of s m.shape (λ x y. cond (is_covered (first, left) (own 0).shape x y) (at s (own 0) (x - first) (y - left)) s.zero) x y l o)
      ∙ placed_value 0 x y l o
      ∙ ap (λ b. cond (b && (nat_le left y && nat_lt y right)) (at s m x y) s.zero) u)

  front_next : (i : ℕ) → sum_of s (matrix_of s m.shape (front i)) (placed_own i) ≡ matrix_of s m.shape (front (i + 1))
  front_next i =
      same_matrix_of s m.shape (λ x y. s.add (at s (matrix_of s m.shape (front i)) x y) (at s (placed_own i) x y)) (front (i + 1)) (λ x y l o.
      let first = part_start q m.shape.rows i in
      let last = part_start q m.shape.rows (i + 1) in
      let down = start_rises q m.shape.rows i in
      ap (λ v. s.add v (at s (placed_own i) x y)) (at-matrix_of s m.shape (front i) x y l o)
      ∙ ap (s.add (front i x y)) (placed_value i x y l o)
      ∙ split (nat_le left y && nat_lt y right)
      (λ z. split (nat_lt x first)
      (λ t.
      let u : (nat_le first x && nat_lt x last) ≡ false = grind (arith, nat_tests) in
      let v : nat_lt x last ≡ true = grind (arith, nat_tests) in
      rw (z, t, u, v) (add_zero s laws (at s m x y) (is_value x y)))
      (λ t. split (nat_lt x last)
      (λ v.
      let u : (nat_le first x && nat_lt x last) ≡ true = grind (arith, nat_tests) in
      rw (z, t, u, v) (laws.zero_add (at s m x y) (is_value x y)))
      (λ v.
      let u : (nat_le first x && nat_lt x last) ≡ false = grind (arith, nat_tests) in
      rw (z, t, u, v) (laws.zero_add s.zero laws.zero_value))))
      (λ z.
      let a : (nat_lt x first && (nat_le left y && nat_lt y right)) ≡ false = grind (arith, nat_tests) in
      let b : ((nat_le first x && nat_lt x last) && (nat_le left y && nat_lt y right)) ≡ false = grind (arith, nat_tests) in
      let c : (nat_lt x last && (nat_le left y && nat_lt y right)) ≡ false = grind (arith, nat_tests) in
      rw (a, b, c) (laws.zero_add s.zero laws.zero_value)))

  fronts : (i : ℕ) → summed (matrices s) placed_own i ≡ matrix_of s m.shape (front (suc i))
  fronts zero = front_first
  fronts (suc i) =
      let e : suc i + 1 ≡ suc (suc i) = omega arith in
      ap (λ acc. sum_of s acc (placed_own (suc i))) (fronts i) ∙ front_next (suc i) ∙ ap (λ n. matrix_of s m.shape (front n)) e

  -- the pieces of all blocks of column j make the panel
  pub pieces_make_panel : summed (matrices s) placed_own (q - 1) ≡ panel_of s q m k j
  pieces_make_panel =
      let e : suc (q - 1) ≡ q = omega arith in
      let whole = cut s (0, m.shape.rows) (piece q m.shape.cols j k) m in
      let up = start_rises q width k in
      let inside = start_within q width (k + 1) in
      let within = start_within q m.shape.cols (j + 1) in
      fronts (q - 1)
      ∙ ap (λ n. matrix_of s m.shape (front n)) e
      ∙ same_matrix_of s m.shape (front q) (λ x y. cond (is_covered (0, left) whole.shape x y) (at s whole (x - 0) (y - left)) s.zero) (λ x y l o.
      let f : part_start q m.shape.rows q ≡ m.shape.rows = start_last q m.shape.rows pos in
      let t : nat_lt x m.shape.rows ≡ true = grind (arith, nat_tests) in
      split (nat_le left y && nat_lt y right)
      (λ z.
      let c : left ≤ y = grind (arith, nat_tests) in
      let d : y < right = grind (arith, nat_tests) in
      let u : is_covered (0, left) whole.shape x y ≡ true = grind (arith, nat_tests) in
      let a : 0 + (x - 0) ≡ x = omega arith in
      let b : left + (y - left) ≡ y = omega arith in
      rw (f, t, z, u) (sym (at-matrix_of s whole.shape (λ x y. at s m (0 + x) (left + y)) (x - 0) (y - left) (omega arith) (omega arith) ∙ ap (λ r. at s m r (left + (y - left))) a ∙ ap (at s m x) b)))
      (λ z.
      let u : is_covered (0, left) whole.shape x y ≡ false = grind (arith, nat_tests) in
      rw (f, t, z, u) refl))

-- the acts leave the panels of the matrix
pub is_panels_plan : (q : ℕ) → 0 < q → (shape : Extent) → IsPanelsPlan (panels_acts q shape) q shape (1 + q)
is_panels_plan q pos shape s laws m is_m same state has k j l o =
    ap (λ (e : Extent). meaning (matrices s) (panels_acts q e) state (k * q + j) (1 + q)) (sym same)
    ∙ parts_joined (matrices s) q m.shape state (block_of s q m) has k j l o
    ∙ ap Some (pieces_make_panel s laws q pos m is_m k j)
