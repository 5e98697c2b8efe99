-- A process's blocks of a search, and of a matrix of bits that is taken as one of weights.
use Rattle.std.proofs.Common.{◌≡◌, ◌≢◌, ℕ, ◌+◌, ◌-◌, ◌*◌, ◌/◌, ◌%◌, ◌<◌, ◌≤◌, ◌⊎◌, inl, ⊎_elim, cond, List, [], length, get_or, set, subst, refl, sym, ap, ◌∙◌, arith}
use Rattle.std.specs.Prelude.{Option, Some, None, nat_lt}
use Rattle.std.proofs.lemmas.Bool.{cases_lt}
use Rattle.std.proofs.lemmas.List.{get_or_past, get_or-set_same, get_or-set_other, length-set}
use Rattle.std.proofs.lemmas.List.Elements.{All-nil}
use Rattle.cb_matrix.proofs.Pairs.{AllPairs-nil}
use Rattle.std.proofs.lemmas.Option.{none-some, same_Some}
use Rattle.cb_semirings.specs.Arithmetic.{Arithmetic, IsSemiring, IsValue}
use Rattle.cb_semirings.specs.Tables.{min_plus, or_and}
use Rattle.cb_matrix.specs.declared.Entry.{Entry}
use Rattle.cb_matrix.specs.Sparse.{Extent, Sparse, IsBefore, IsInside, IsMatrix, at, value_at}
use Rattle.cb_matrix.specs.Values.{empty_matrix}
use Rattle.cb_matrix.specs.Operations.{placed, sum_of}
use Rattle.cb_matrix.proofs.Made.{same_matrix}
use Rattle.cb_grid.specs.Parts.{part, part_length, part_start}
use Rattle.cb_grid.specs.Blocks.{block_of, part_with, place_in_part}
use Rattle.cb_grid.proofs.Parts.{column_of_rank, part_below, place_below, rank_below, row_of_rank, start_there}
use Rattle.cb_plan_operations.proofs.ResultBlocks.{at-block, blocks_of_two, sum_of_blocks}
use Rattle.cb_plan_slots.specs.Slots.{block_of_rank}
use Rattle.cb_searches.specs.Walks.{AreDistances, infinite}
use Rattle.cb_search_columns.specs.SearchColumns.{AreNextRound, AreSearch, if_lower, lower_values, reached_from, source_column}
use Rattle.cb_searches.proofs.UnitWeights.{weights_there}
use Rattle.cb_search_columns.proofs.UnitCuts.{cut_weights, distances_levels}
use Rattle.cb_search_columns.proofs.ColumnRounds.{columns_advanced, columns_begun, columns_ended, reached_shape}
use Rattle.cb_rank_process.specs.Processes.{KeptView, ProcessView, register_at}
use Rattle.cb_rank_process.specs.VertexNumbers.{BeginsSearch, HasBlockOf, HasNextRound, HaveNone, IsSettled, MakesRound, Settles, Weighs, WeighsBits, WritesPart, WritesVertices, corner_of, kept_of, with_register}
use Rattle.cb_rank_process.proofs.VertexParts.{vertex_parts}
use Rattle.cb_market_pages.specs.Text.{vertex_text_of}

-- ---- registers
-- a register with a matrix is one of those that there are
inside : (registers : List (Option KeptView)) (n : ℕ) (kept : KeptView) → get_or registers n None ≡ Some kept → n < length registers
inside registers n kept is = ⊎_elim
    (λ (l : n < length registers). l)
    (λ (l : length registers ≤ n). absurd (none-some kept (sym (get_or_past registers n None l) ∙ is)))
    (cases_lt n (length registers))

-- the last of two registers that got matrices
last_register : (x : ProcessView) (n k : ℕ) (a b : KeptView) → k < length x.registers → register_at (with_register (with_register x n a) k b) k ≡ Some b
last_register x n k a b l = get_or-set_same (set x.registers n (Some a)) k (Some b) None (omega (arith, length-set {A = Option KeptView} x.registers n (Some a)))

-- and the first, if it is another one
first_register : (x : ProcessView) (n k : ℕ) (a b : KeptView) → n ≢ k → n < length x.registers → register_at (with_register (with_register x n a) k b) n ≡ Some a
first_register x n k a b other l = get_or-set_other (set x.registers n (Some a)) k n (Some b) None other ∙ get_or-set_same x.registers n (Some a) None l

-- ---- blocks
module _ (q : ℕ) (a b : Sparse) (same : b.shape ≡ a.shape) (i j : ℕ) where
  -- the lower values of blocks are the block of the lower values
  lower_blocks : lower_values (block_of min_plus q b i j) (block_of min_plus q a i j) ≡ block_of min_plus q (lower_values b a) i j
  lower_blocks = blocks_of_two min_plus q (λ x y. if_lower y x) a b same i j

some_side : (q me : ℕ) → me < q * q → 0 < q
some_side q me l = ⊎_elim
    (λ (k : 0 < q). k)
    (λ (k : q ≤ 0). let e : q ≡ 0 = omega arith in let f : q * q ≡ 0 = ap (λ n. n * q) e ∙ omega arith in absurd (omega arith))
    (cases_lt 0 q)

no_matrix : (shape : Extent) → IsMatrix min_plus (empty_matrix shape)
no_matrix shape = record {
  ascending = AllPairs-nil IsBefore;
  inside = All-nil (IsInside shape);
  values = All-nil (λ (e : Entry). IsValue min_plus e.value);
  not_zero = All-nil (λ (e : Entry). e.value ≢ infinite);
}

module _ (q : ℕ) (some : 0 < q) (m : Sparse) (is : IsMatrix min_plus m) (none : HaveNone min_plus q m) where
  none_at : (i j : ℕ) → i < m.shape.rows → j < m.shape.cols → at min_plus m i j ≡ at min_plus (empty_matrix m.shape) i j
  unfolding value_at
  none_at i j l k =
      let p = part_with q m.shape.rows i in
      let c = part_with q m.shape.cols j in
      let x = place_in_part q m.shape.rows i in
      let y = place_in_part q m.shape.cols j in
      let row = part_below q m.shape.rows some i l in
      let col = part_below q m.shape.cols some j k in
      let b : block_of_rank min_plus q m (p * q + c) ≡ block_of min_plus q m p c = (λ t. block_of min_plus q m (row_of_rank q p c col t) (column_of_rank q p c col t)) in
      let empty : (block_of min_plus q m p c).entries ≡ [] = sym (ap (λ (d : Sparse). d.entries) b) ∙ none (p * q + c) (rank_below q p c row col) in
      (λ t. at min_plus m (sym (start_there q m.shape.rows some i l) t) (sym (start_there q m.shape.cols some j k) t))
      ∙ sym (at-block min_plus q m p c x y (place_below q m.shape.rows some i l) (place_below q m.shape.cols some j k))
      ∙ ap (λ (es : List Entry). value_at infinite es x y) empty

  -- a matrix of which no rank has an entry has none
  no_entries : m.entries ≡ []
  no_entries = ap (λ (d : Sparse). d.entries) (same_matrix min_plus m (empty_matrix m.shape) is (no_matrix m.shape) refl none_at)

-- ---- a search
-- a search that is begun
pub begun_columns : (kept : KeptView) (source : ℕ) → kept.shape.rows ≡ kept.shape.cols → source < kept.shape.rows → (a : Sparse) → IsMatrix min_plus a → a.shape ≡ kept.shape
    → AreSearch a source 0 (source_column kept.shape.rows source) (source_column kept.shape.rows source)
begun_columns kept source square vertex a is e =
    let rows : a.shape.rows ≡ kept.shape.rows = ap (λ (d : Extent). d.rows) e in
    let cols : a.shape.cols ≡ kept.shape.cols = ap (λ (d : Extent). d.cols) e in
    subst (λ n. AreSearch a source 0 (source_column n source) (source_column n source)) rows (columns_begun a source is (omega arith) (omega arith))

-- a search that a process begins
pub begins_search : (x begun y : ProcessView) (graph source known fell : ℕ) (kept a b : KeptView) → register_at x graph ≡ Some kept → kept.shape.rows ≡ kept.shape.cols → source < kept.shape.rows
    → known < length x.registers → fell < length x.registers → a ≡ kept_of min_plus x (source_column kept.shape.rows source) → b ≡ kept_of min_plus x (source_column kept.shape.rows source)
    → begun ≡ with_register x known a → y ≡ with_register begun fell b → BeginsSearch graph source known fell x y
begins_search x begun y graph source known fell kept a b was square vertex l k a_is b_is first second = record {
  kept = kept;
  was = was;
  square = square;
  vertex = vertex;
  inside = (l, k);
  after = second ∙ (λ t. with_register (first t) fell (b_is t)) ∙ ap (λ (n : KeptView). with_register (with_register x known n) fell (kept_of min_plus x (source_column kept.shape.rows source))) a_is;
  search = begun_columns kept source square vertex;
}

-- what a process settles
pub settles : (x begun y : ProcessView) (known reached : ℕ) (sum lower : KeptView) → IsSettled known reached x sum lower → begun ≡ with_register x known sum → y ≡ with_register begun reached lower → Settles known reached x y
settles x begun y known reached sum lower is first second = record {
  sum = sum;
  lower = lower;
  settled = is;
  after = second ∙ ap (λ (z : ProcessView). with_register z reached lower) first;
}

module _ (known reached : ℕ) (x y : ProcessView) (h : Settles known reached x y) where
  module _ (a : Sparse) (source k : ℕ) (numbers fallen : Sparse) (search : AreSearch a source k numbers fallen) (other : known ≢ reached) (fits : x.me < x.side * x.side) (has_known : HasBlockOf min_plus x known numbers) (has_reached : HasBlockOf min_plus x reached (reached_from a fallen)) where
    abbrev values : Sparse
    values = reached_from a fallen

    abbrev i : ℕ
    i = x.me / x.side

    abbrev j : ℕ
    j = x.me % x.side

    same : values.shape ≡ numbers.shape
    same = reached_shape a source k numbers fallen search values refl ∙ sym search.known_shape

    were_numbers : h.settled.numbers ≡ kept_of min_plus x numbers
    were_numbers = same_Some h.settled.numbers (kept_of min_plus x numbers) (sym h.settled.were_numbers ∙ has_known)

    were_values : h.settled.values ≡ kept_of min_plus x values
    were_values = same_Some h.settled.values (kept_of min_plus x values) (sym h.settled.were_values ∙ has_reached)

    numbers_are : h.sum ≡ kept_of min_plus x (sum_of min_plus numbers values)
    numbers_are =
        h.settled.sum_is
        ∙ (λ t. let kept : KeptView = record { shape = (were_numbers t).shape; block = sum_of min_plus (were_numbers t).block (were_values t).block } in kept)
        ∙ ap (λ (b : Sparse). let kept : KeptView = record { shape = numbers.shape; block = b } in kept) (sum_of_blocks min_plus x.side numbers values same i j)

    fell_are : h.lower ≡ kept_of min_plus x (lower_values numbers values)
    fell_are =
        h.settled.lower_is
        ∙ (λ t. let kept : KeptView = record { shape = (were_values t).shape; block = lower_values (were_numbers t).block (were_values t).block } in kept)
        ∙ ap (λ (b : Sparse). let kept : KeptView = record { shape = values.shape; block = b } in kept) (lower_blocks x.side values numbers (sym same) i j)

    abbrev after : ProcessView
    after = with_register (with_register x known h.sum) reached h.lower

    next : AreNextRound a source k numbers values
    next = columns_advanced a source k numbers fallen search values refl

    next_there : HasNextRound a source k numbers values known reached after
    next_there = record {
      search = next;
      has_numbers = first_register x known reached h.sum h.lower other (inside x.registers known h.settled.numbers h.settled.were_numbers) ∙ ap Some numbers_are;
      has_fallen = last_register x known reached h.sum h.lower (inside x.registers reached h.settled.values h.settled.were_values) ∙ ap Some fell_are;
      ended = λ none. columns_ended a source (k + 1) (sum_of min_plus numbers values) (lower_values numbers values) next
          (inl (no_entries x.side (some_side x.side x.me fits) (lower_values numbers values) next.fell_matrix none));
    }

  -- what is settled is a round
  pub makes_round : MakesRound known reached x y
  makes_round a source k numbers fallen search other fits has_known has_reached =
      subst (λ (z : ProcessView). HasNextRound a source k numbers (reached_from a fallen) known reached z) (sym h.after)
      (next_there a source k numbers fallen search other fits has_known has_reached)

-- ---- bits
-- the block of a matrix of bits is that of the same matrix of weights
pub weighs_bits : (register : ℕ) (x z y : ProcessView) → (h : Weighs register x z y) → ((k : KeptView) → register_at x register ≡ Some k → k.shape.rows < infinite) → WeighsBits register x z y
weighs_bits register x z y h small a is square sides ranks has =
    let kept : h.kept ≡ kept_of or_and x a = same_Some h.kept (kept_of or_and x a) (sym h.was ∙ has) in
    let shape : h.kept.shape.rows ≡ a.shape.rows = ap (λ (k : KeptView). k.shape.rows) kept in
    let below = small h.kept h.was in
    let i = x.me / x.side in
    let j = x.me % x.side in
    let block : block_of or_and x.side a i j ≡ block_of min_plus x.side a i j = cut_weights a is (part x.side a.shape.rows i) (part x.side a.shape.cols j) in
    let all : h.kept ≡ kept_of min_plus z a =
    kept ∙ ap (λ (b : Sparse). let k : KeptView = record { shape = a.shape; block = b } in k) block
    ∙ (λ t. let k : KeptView = record { shape = a.shape; block = block_of_rank min_plus (sym sides t) a (sym ranks t) } in k) in (
      weights_there a is,
      subst (λ (v : ProcessView). HasBlockOf min_plus v register a) (sym h.after) (get_or-set_same z.registers register (Some h.kept) None h.inside ∙ ap Some all),
      distances_levels a is square (omega arith),
    )

-- ---- lines
-- the lines that a process writes are its part of those of the column
pub writes_part : (s : Arithmetic) → IsSemiring s → (register : ℕ) (x : ProcessView) (text : List ℕ) → WritesVertices s register x text → WritesPart s register x text
writes_part s laws register x text h m is one some has =
    let kept : h.kept ≡ kept_of s x m = same_Some h.kept (kept_of s x m) (sym h.was ∙ has) in (
      h.lines ∙ ap (λ (k : KeptView). vertex_text_of (placed s k.shape (corner_of x.side k.shape x.me) k.block)) kept,
      vertex_parts s laws x.side some m is one,
    )
