-- What each step of the product by a spread vector does to the slots, over blocks of any kind.
use Rattle.std.proofs.Common.{◌≡◌, ◌≢◌, ℕ, zero, suc, ◌+◌, ◌-◌, ◌*◌, ◌<◌, ◌≤◌, true, false, List, [], ◌∷◌, map, length, inl, refl, sym, ap, subst, ◌∙◌, arith}
use Rattle.std.specs.Prelude.{◌⊎◌, Option, Some, ◌==◌, ◌&&◌, nat_lt, nat_le, flat_map}
use Rattle.std.specs.List.{range_with_len}
use Rattle.std.proofs.lemmas.Bool.Decides.{nat_tests}
use Rattle.std.proofs.lemmas.List.FromFn.{length-map-range_with_len, get_or-map-range_with_len}
use Rattle.cb_matrix.specs.Sparse.{Extent}
use Rattle.cb_plan.specs.declared.acts.Op.{Op}
use Rattle.cb_plan.specs.declared.acts.Op.TheVariants as op_is
use Rattle.cb_plan.specs.Meaning.{Algebra, State, meaning, one, two}
use Rattle.cb_plan.proofs.Effects.{split}
use Rattle.cb_grid.specs.declared.TheConstants.{LARGEST_SIDE}
use Rattle.cb_grid.specs.Parts.{row_group, column_group, part, part_start}
use Rattle.cb_plan_parts.specs.Collectives.{is_member, member, place_of, exchanged}
use Rattle.cb_plan_parts.proofs.MemberPlaces.{place_of-member}
use Rattle.cb_plan_parts.proofs.Spread.{broadcast_spreads}
use Rattle.cb_plan_parts.proofs.SendMeaning.{all_to_all_exchanges}
use Rattle.cb_plan_parts.specs.PlanParts.{tagged}
use Rattle.cb_plan_parts.proofs.Grid.{in_row, in_column, row_distinct}
use Rattle.cb_plan_operations.specs.VectorPlans.{piece_broadcast, part_broadcasts, piece_broadcasts, add_piece, product_ops, piece_cut, cut_ops, exchange, exchanges, next_summand, sum_ops, exchange_tag}
use Rattle.cb_plan_operations.proofs.RankPrograms.{each_skips, each_sets, after_op, after_ops, after_ops-append, lists_skip, ops_skip}

-- the pieces before number k, each in its place of the whole
abbrev pub assembled : {M : Type 0} → Algebra M → ℕ → Extent → (ℕ → M) → ℕ → M
assembled ops q whole piece zero = ops.empty whole
assembled ops q whole piece (suc k) = ops.add (assembled ops q whole piece k) (ops.place whole (part_start q whole.rows k, 0) (piece k))

-- the sum of the blocks from the first up to number k
abbrev pub summed : {M : Type 0} → Algebra M → (ℕ → M) → ℕ → M
summed ops block zero = block 0
summed ops block (suc k) = ops.add (summed ops block k) (block (suc k))

-- the test whether two numbers are equal holds of a number and itself
pub yes : (n : ℕ) → (n == n) ≡ true
yes n = grind (arith, nat_tests)

-- and it fails for two that differ
pub no : (m n : ℕ) → m ≢ n → (m == n) ≡ false
no m n ne = grind (arith, nat_tests)

module _ {M : Type 0} (ops : Algebra M) (q : ℕ) where
  -- ---- the pieces come
  -- a broadcast changes its slot alone
  pub broadcast_skips : (j t : ℕ) (state : State M) → t < q → j < q → (r x : ℕ) → 10 + t ≢ x → meaning ops (piece_broadcast q j t) state r x ≡ state r x
  broadcast_skips j t state l m r x ne =
      let f : (10 + t == x) ≡ false = no (10 + t) x ne in
      ap (λ st. st r x) (broadcast_spreads ops (column_group q j) (t * q + j) (tagged t) 1 (10 + t) state (in_column q t j j l m m ∙ yes j))
      ∙ split (is_member (column_group q j) r) (λ u. rw (u, f) refl) (λ u. rw u refl)

  -- and its column alone
  broadcast_elsewhere : (g t : ℕ) (state : State M) → t < q → g < q → (i j x : ℕ) → i < q → j < q → g ≢ j → meaning ops (piece_broadcast q g t) state (i * q + j) x ≡ state (i * q + j) x
  broadcast_elsewhere g t state l m i j x h k ne =
      let f : is_member (column_group q g) (i * q + j) ≡ false = in_column q i j g h k m ∙ no g j ne in
      ap (λ st. st (i * q + j) x) (broadcast_spreads ops (column_group q g) (t * q + g) (tagged t) 1 (10 + t) state (in_column q t g g l m m ∙ yes g))
      ∙ rw f refl

  broadcast_here : (j t : ℕ) (state : State M) → t < q → j < q → (i : ℕ) → i < q → meaning ops (piece_broadcast q j t) state (i * q + j) (10 + t) ≡ state (t * q + j) 1
  broadcast_here j t state l m i h =
      let u : is_member (column_group q j) (i * q + j) ≡ true = in_column q i j j h m m ∙ yes j in
      ap (λ st. st (i * q + j) (10 + t)) (broadcast_spreads ops (column_group q j) (t * q + j) (tagged t) 1 (10 + t) state (in_column q t j j l m m ∙ yes j))
      ∙ rw (u, yes (10 + t)) refl

  -- slots that the broadcasts of a column don't set
  pub part_skips : (j : ℕ) (state : State M) → j < q → (r x : ℕ) → (x < 10) ⊎ (10 + q ≤ x) → meaning ops (part_broadcasts q j) state r x ≡ state r x
  part_skips j state m r x out = each_skips ops (piece_broadcast q j) r x 0 q state (λ t _ l st. broadcast_skips j t st (omega arith) m r x (let ne : 10 + t ≢ x = omega (arith, out) in ne))

  part_elsewhere : (g : ℕ) (state : State M) → g < q → (i j x : ℕ) → i < q → j < q → g ≢ j → meaning ops (part_broadcasts q g) state (i * q + j) x ≡ state (i * q + j) x
  part_elsewhere g state m i j x h k ne = each_skips ops (piece_broadcast q g) (i * q + j) x 0 q state (λ t _ l st. broadcast_elsewhere g t st (omega arith) m i j x h k ne)

  part_here : (j : ℕ) (state : State M) → j < q → (i t : ℕ) → i < q → t < q → meaning ops (part_broadcasts q j) state (i * q + j) (10 + t) ≡ state (t * q + j) 1
  part_here j state m i t h l =
      each_sets ops (piece_broadcast q j) (i * q + j) (10 + t) t (λ st. st (t * q + j) 1) 0 q state (omega arith) (omega arith)
      (λ st. broadcast_here j t st l m i h)
      (λ g _ k ne st. broadcast_skips j g st (omega arith) m (i * q + j) (10 + t) (let no : 10 + g ≢ 10 + t = omega (arith, ne) in no))
      (λ g _ k ne st. broadcast_skips j g st (omega arith) m (t * q + j) 1 (let no : 10 + g ≢ 1 = omega arith in no))

  -- after all of them each rank has the pieces of its part
  pub pieces_come : (state : State M) (i j t : ℕ) → i < q → j < q → t < q → meaning ops (piece_broadcasts q) state (i * q + j) (10 + t) ≡ state (t * q + j) 1
  pieces_come state i j t h m l =
      each_sets ops (part_broadcasts q) (i * q + j) (10 + t) j (λ st. st (t * q + j) 1) 0 q state (omega arith) (omega arith)
      (λ st. part_here j st m i t h l)
      (λ g _ k ne st. part_elsewhere g st (omega arith) i j (10 + t) h m ne)
      (λ g _ k ne st. part_elsewhere g st (omega arith) t j 1 l m ne)

  -- and its other slots as they were
  pub pieces_skip : (state : State M) (r x : ℕ) → (x < 10) ⊎ (10 + q ≤ x) → meaning ops (piece_broadcasts q) state r x ≡ state r x
  pieces_skip state r x out = each_skips ops (part_broadcasts q) r x 0 q state (λ g _ k st. part_skips g st (omega arith) r x out)

  -- ---- each rank multiplies
  -- the pieces are added in their places
  pub pieces_add : (whole : Extent) (piece : ℕ → M) (a m b : ℕ) (slots : ℕ → Option M) → a + m ≡ b → slots 3 ≡ Some (assembled ops q whole piece a) → ((t : ℕ) → t < b → slots (10 + t) ≡ Some (piece t)) →
      after_ops ops (flat_map (add_piece q whole) (range_with_len a m)) slots 3 ≡ Some (assembled ops q whole piece b)
  pieces_add whole piece a zero b slots e so_far has = let f : a ≡ b = omega arith in so_far ∙ ap (λ k. Some (assembled ops q whole piece k)) f
  pieces_add whole piece a (suc m) b slots e so_far has =
      let f : a + 1 ≡ suc a = omega arith in
      let next : ℕ → Option M = after_ops ops (add_piece q whole a) slots in
      let is : next 3 ≡ Some (assembled ops q whole piece (a + 1)) =
      ap (λ x. two ops.add x (one (ops.place whole (part_start q whole.rows a, 0)) (slots (10 + a)))) so_far
      ∙ ap (λ x. two ops.add (Some (assembled ops q whole piece a)) (one (ops.place whole (part_start q whole.rows a, 0)) x)) (has a (omega arith))
      ∙ rw f refl in
      let kept : (t : ℕ) → next (10 + t) ≡ slots (10 + t) = λ t. rw (no 3 (10 + t) (let ne : 3 ≢ 10 + t = omega arith in ne), no 4 (10 + t) (let ne : 4 ≢ 10 + t = omega arith in ne)) refl in
      ap (λ s. s 3) (after_ops-append ops (add_piece q whole a) (flat_map (add_piece q whole) (range_with_len (a + 1) m)) slots)
      ∙ pieces_add whole piece (a + 1) m b next (omega arith) is (λ t l. kept t ∙ has t l)

  -- slots other than 3 and 4 stay
  pub adds_skip : (whole : Extent) (x : ℕ) → 3 ≢ x → 4 ≢ x → (k : ℕ) (slots : ℕ → Option M) → after_ops ops (add_piece q whole k) slots x ≡ slots x
  adds_skip whole x ne nf k slots = rw (no 3 x ne, no 4 x nf) refl

  -- slot 5 has the block of slot 0 times the vector that the pieces from slot 10 on make
  pub product_made : (whole : Extent) (piece : ℕ → M) (block : M) (slots : ℕ → Option M) → slots 0 ≡ Some block → ((t : ℕ) → t < q → slots (10 + t) ≡ Some (piece t)) →
      after_ops ops (product_ops q whole) slots 5 ≡ Some (ops.mul_vec block (assembled ops q whole piece q))
  product_made whole piece block slots left has =
      let first : ℕ → Option M = after_op ops (op_is.Zero 3 whole) slots in
      let pieces : List Op = flat_map (add_piece q whole) (range_with_len 0 q) in
      let second : ℕ → Option M = after_ops ops pieces first in
      let is : second 3 ≡ Some (assembled ops q whole piece q) =
      pieces_add whole piece 0 q q first (omega arith) refl (λ t l. rw (no 3 (10 + t) (let ne : 3 ≢ 10 + t = omega arith in ne)) (has t l)) in
      let kept : second 0 ≡ slots 0 = lists_skip ops (add_piece q whole) 0 (adds_skip whole 0 (omega arith) (omega arith)) 0 q first in
      ap (λ s. s 5) (after_ops-append ops pieces (op_is.MulVec 0 3 5 ∷ []) first)
      ∙ ap (λ x. two ops.mul_vec x (second 3)) (kept ∙ left)
      ∙ ap (λ x. two ops.mul_vec (Some block) x) is

  -- other slots stay
  pub products_skip : (whole : Extent) (slots : ℕ → Option M) (x : ℕ) → 3 ≢ x → 4 ≢ x → 5 ≢ x → after_ops ops (product_ops q whole) slots x ≡ slots x
  products_skip whole slots x ne nf ng =
      let first : ℕ → Option M = after_op ops (op_is.Zero 3 whole) slots in
      let pieces : List Op = flat_map (add_piece q whole) (range_with_len 0 q) in
      let last : after_ops ops (op_is.MulVec 0 3 5 ∷ []) (after_ops ops pieces first) x ≡ after_ops ops pieces first x = rw (no 5 x ng) refl in
      let begin : first x ≡ slots x = rw (no 3 x ne) refl in
      ap (λ s. s x) (after_ops-append ops pieces (op_is.MulVec 0 3 5 ∷ []) first)
      ∙ last
      ∙ lists_skip ops (add_piece q whole) x (adds_skip whole x ne nf) 0 q first
      ∙ begin

  -- ---- each rank cuts its product
  cuts_make : (rows a m t : ℕ) (slots : ℕ → Option M) → a ≤ t → t < a + m → after_ops ops (map (piece_cut q rows) (range_with_len a m)) slots (80 + t) ≡ one (ops.cut (part q rows t) (0, 1)) (slots 5)
  cuts_make rows a zero t slots l h = absurd (omega arith)
  cuts_make rows a (suc m) t slots l h =
      let next : ℕ → Option M = after_op ops (piece_cut q rows a) slots in
      split (a == t)
      (λ u.
      let e : a ≡ t = grind (arith, nat_tests) in
      ops_skip ops (piece_cut q rows) (80 + t) (a + 1) m next (λ k b. let ne : 80 + k ≢ 80 + t = omega arith in ne)
      ∙ subst (λ x. next (80 + x) ≡ one (ops.cut (part q rows x) (0, 1)) (slots 5)) e (rw (yes (80 + a)) refl))
      (λ u.
      let kept : next 5 ≡ slots 5 = rw (no (80 + a) 5 (let ne : 80 + a ≢ 5 = omega arith in ne)) refl in
      cuts_make rows (a + 1) m t next (grind (arith, nat_tests)) (omega arith) ∙ ap (one (ops.cut (part q rows t) (0, 1))) kept)

  -- slot 80 + t has piece t of what is in slot 5
  pub pieces_cut : (rows t : ℕ) (slots : ℕ → Option M) → t < q → after_ops ops (cut_ops q rows) slots (80 + t) ≡ one (ops.cut (part q rows t) (0, 1)) (slots 5)
  pieces_cut rows t slots l = cuts_make rows 0 q t slots (omega arith) (omega arith)

  -- slots below 80 stay
  pub cuts_skip : (rows : ℕ) (slots : ℕ → Option M) (x : ℕ) → x < 80 → after_ops ops (cut_ops q rows) slots x ≡ slots x
  cuts_skip rows slots x l = ops_skip ops (piece_cut q rows) x 0 q slots (λ k _. let ne : 80 + k ≢ x = omega arith in ne)

  -- ---- the pieces are exchanged
  module _ (few : q ≤ LARGEST_SIDE) where
    exchange_is : (g : ℕ) (state : State M) → g < q → meaning ops (exchange q g) state ≡ exchanged (row_group q g) 80 150 state
    exchange_is g state m =
        let e : length (row_group q g) ≡ q = length-map-range_with_len (λ j. g * q + j) 0 q in
        all_to_all_exchanges ops (row_group q g) exchange_tag 80 150 state (row_distinct q g m) (inl (omega arith))

    -- a row's exchange changes that row alone
    exchange_elsewhere : (g : ℕ) (state : State M) → g < q → (i j x : ℕ) → j < q → g ≢ i → meaning ops (exchange q g) state (i * q + j) x ≡ state (i * q + j) x
    exchange_elsewhere g state m i j x l ne =
        let f : is_member (row_group q g) (i * q + j) ≡ false = in_row q i j g l ∙ no g i ne in
        ap (λ st. st (i * q + j) x) (exchange_is g state m) ∙ rw f refl

    exchange_here : (i : ℕ) (state : State M) → i < q → (t s : ℕ) → t < q → s < q → meaning ops (exchange q i) state (i * q + t) (150 + s) ≡ state (i * q + s) (80 + t)
    exchange_here i state m t s l h =
        let e : length (row_group q i) ≡ q = length-map-range_with_len (λ j. i * q + j) 0 q in
        let u : is_member (row_group q i) (i * q + t) ≡ true = in_row q i t i l ∙ yes i in
        let v : (nat_le 150 (150 + s) && nat_lt (150 + s) (150 + length (row_group q i))) ≡ true = grind (arith, nat_tests) in
        let there : (p : ℕ) → p < q → member (row_group q i) p ≡ i * q + p = λ p b. get_or-map-range_with_len (λ j. i * q + j) 0 q p p 0 b (omega arith) in
        let place : place_of (row_group q i) (i * q + t) ≡ t = ap (place_of (row_group q i)) (sym (there t l)) ∙ place_of-member (row_group q i) t (row_distinct q i m) (omega arith) in
        let less : (150 + s) - 150 ≡ s = omega arith in
        ap (λ st. st (i * q + t) (150 + s)) (exchange_is i state m)
        ∙ rw (u, v, place, less) (ap (λ r. state r (80 + t)) (there s h))

    -- slots that it doesn't set
    pub exchange_skips : (g : ℕ) (state : State M) → g < q → (r x : ℕ) → x < 150 → meaning ops (exchange q g) state r x ≡ state r x
    exchange_skips g state m r x l =
        let f : (nat_le 150 x && nat_lt x (150 + length (row_group q g))) ≡ false = grind (arith, nat_tests) in
        ap (λ st. st r x) (exchange_is g state m)
        ∙ split (is_member (row_group q g) r) (λ u. rw (u, f) refl) (λ u. rw u refl)

    -- after all of them each rank has its piece of each product of its row
    pub pieces_exchanged : (state : State M) (i t s : ℕ) → i < q → t < q → s < q → meaning ops (exchanges q) state (i * q + t) (150 + s) ≡ state (i * q + s) (80 + t)
    pieces_exchanged state i t s m l h =
        each_sets ops (exchange q) (i * q + t) (150 + s) i (λ st. st (i * q + s) (80 + t)) 0 q state (omega arith) (omega arith)
        (λ st. exchange_here i st m t s l h)
        (λ g _ k ne st. exchange_elsewhere g st (omega arith) i t (150 + s) l ne)
        (λ g _ k ne st. exchange_elsewhere g st (omega arith) i s (80 + t) h ne)

    -- slots below 150 stay
    pub exchanges_skip : (state : State M) (r x : ℕ) → x < 150 → meaning ops (exchanges q) state r x ≡ state r x
    exchanges_skip state r x l = each_skips ops (exchange q) r x 0 q state (λ g _ k st. exchange_skips g st (omega arith) r x l)

  -- ---- the pieces are added up
  summands_add : (block : ℕ → M) (a m b : ℕ) (slots : ℕ → Option M) → a + m ≡ b → slots 2 ≡ Some (summed ops block a) → ((s : ℕ) → s ≤ b → slots (150 + s) ≡ Some (block s)) →
      after_ops ops (map next_summand (range_with_len a m)) slots 2 ≡ Some (summed ops block b)
  summands_add block a zero b slots e so_far has = let f : a ≡ b = omega arith in so_far ∙ ap (λ k. Some (summed ops block k)) f
  summands_add block a (suc m) b slots e so_far has =
      let f : a + 1 ≡ suc a = omega arith in
      let g : 151 + a ≡ 150 + suc a = omega arith in
      let next : ℕ → Option M = after_op ops (next_summand a) slots in
      let is : next 2 ≡ Some (summed ops block (a + 1)) =
      ap (λ x. two ops.add x (slots (151 + a))) so_far
      ∙ ap (λ k. two ops.add (Some (summed ops block a)) (slots k)) g
      ∙ ap (λ x. two ops.add (Some (summed ops block a)) x) (has (suc a) (omega arith))
      ∙ rw f refl in
      summands_add block (a + 1) m b next (omega arith) is (λ s l. rw (no 2 (150 + s) (let ne : 2 ≢ 150 + s = omega arith in ne)) (has s l))

  -- slot 2 has the sum of the blocks from slot 150 on
  pub sum_made : (block : ℕ → M) (slots : ℕ → Option M) → ((s : ℕ) → s ≤ q - 1 → slots (150 + s) ≡ Some (block s)) → after_ops ops (sum_ops q) slots 2 ≡ Some (summed ops block (q - 1))
  sum_made block slots has =
      let next : ℕ → Option M = after_op ops (op_is.Copy 150 2) slots in
      summands_add block 0 (q - 1) (q - 1) next (omega arith) (has 0 (omega arith)) (λ s l. rw (no 2 (150 + s) (let ne : 2 ≢ 150 + s = omega arith in ne)) (has s l))

  -- other slots stay
  pub sums_skip : (slots : ℕ → Option M) (x : ℕ) → 2 ≢ x → after_ops ops (sum_ops q) slots x ≡ slots x
  sums_skip slots x ne = ops_skip ops next_summand x 0 (q - 1) (after_op ops (op_is.Copy 150 2) slots) (λ k _. ne) ∙ rw (no 2 x ne) refl
