-- What the stages of the product do, over blocks of any kind.
use Rattle.std.proofs.Common.{◌≡◌, ◌≢◌, ℕ, zero, suc, ◌+◌, ◌*◌, ◌<◌, true, List, ◌++◌, refl, sym, ap, subst, ◌∙◌, arith}
use Rattle.std.specs.Prelude.{Some, ◌==◌, ◌&&◌, nat_lt, nat_le, flat_map}
use Rattle.std.specs.List.{range_with_len}
use Rattle.std.proofs.lemmas.Bool.Decides.{nat_tests}
use Rattle.cb_matrix.specs.Sparse.{Extent}
use Rattle.cb_plan.specs.declared.acts.Act.{Act}
use Rattle.cb_plan.specs.Meaning.{Algebra, State, meaning, three}
use Rattle.cb_grid.specs.Parts.{row_group, column_group, part_shape}
use Rattle.cb_plan_parts.specs.Collectives.{is_member, broadcast_acts}
use Rattle.cb_plan_summa.specs.Summa.{left_slot, right_slot, product_op, broadcasts, products, all_broadcasts, all_products, result_shape, product_acts, stages_sum}
use Rattle.cb_plan.proofs.Effects.{split, meaning-append}
use Rattle.cb_plan_parts.specs.PlanParts.{tagged, zero_op, each_rank}
use Rattle.cb_plan_parts.proofs.Grid.{in_row, in_column, at_place}
use Rattle.cb_plan_parts.proofs.Everywhere.{each_here, each_elsewhere}
use Rattle.cb_plan_parts.proofs.Groups.{groups_stay, groups_spread}
use Rattle.cb_plan_summa.proofs.StageSlots.{after_result, after_earlier, not_mask}

-- the blocks of stage k are in its slots
pub record HasBlocks {M : Type 0} (q : ℕ) (left right : ℕ → ℕ → M) (k : ℕ) (state : State M) : Type 0 where
  pub a : (i j : ℕ) → i < q → j < q → state (i * q + j) (left_slot k) ≡ Some (left i k)
  pub b : (i j : ℕ) → i < q → j < q → state (i * q + j) (right_slot k) ≡ Some (right k j)

-- the operands are in slots 0 and 1, the blocks of the stages before n in their slots, and slot 2 has what the stages
-- before k add up to
pub record AtStage {M : Type 0} (ops : Algebra M) (q : ℕ) (left right first : ℕ → ℕ → M) (n k : ℕ) (state : State M) : Type 0 where
  pub a : (i j : ℕ) → i < q → j < q → state (i * q + j) 0 ≡ Some (left i j)
  pub b : (i j : ℕ) → i < q → j < q → state (i * q + j) 1 ≡ Some (right i j)
  pub blocks : (m : ℕ) → m < n → HasBlocks q left right m state
  pub total : (i j : ℕ) → i < q → j < q → state (i * q + j) 2 ≡ Some (stages_sum ops (left i) (λ t. right t j) (first i j) k)

module _ {M : Type 0} (ops : Algebra M) (q : ℕ) where
  -- the broadcasts of stage k along the rows
  abbrev pub rows : ℕ → List Act
  rows k = flat_map (λ i. broadcast_acts (row_group q i) (i * q + k) (tagged (2 * k)) 0 (left_slot k)) (range_with_len 0 q)

  -- and along the columns
  abbrev pub columns : ℕ → List Act
  columns k = flat_map (λ j. broadcast_acts (column_group q j) (k * q + j) (tagged (2 * k + 1)) 1 (right_slot k)) (range_with_len 0 q)

  yes : (i : ℕ) → (i == i) ≡ true
  yes i = grind (arith, nat_tests)

  -- the root of each row is in it
  pub row_root : (k : ℕ) → k < q → (i : ℕ) → i < 0 + q → is_member (row_group q i) (i * q + k) ≡ true
  row_root k l i m = in_row q i k i l ∙ yes i

  -- and that of each column
  pub column_root : (k : ℕ) → k < q → (j : ℕ) → j < 0 + q → is_member (column_group q j) (k * q + j) ≡ true
  column_root k l j m = in_column q k j j l (omega arith) (omega arith) ∙ yes j

  -- the broadcasts of stage k set its two slots alone
  broadcasts_stay : (k : ℕ) (state : State M) → k < q → (r n : ℕ) → left_slot k ≢ n → right_slot k ≢ n → meaning ops (broadcasts q k) state r n ≡ state r n
  broadcasts_stay k state l r n ne nf =
      ap (λ x. x r n) (meaning-append ops (rows k) (columns k) state)
      ∙ groups_stay ops (column_group q) (λ j. k * q + j) (λ j. tagged (2 * k + 1)) 1 (right_slot k) 0 q (meaning ops (rows k) state) (column_root k l) r n nf
      ∙ groups_stay ops (row_group q) (λ i. i * q + k) (λ i. tagged (2 * k)) 0 (left_slot k) 0 q state (row_root k l) r n ne

  -- after them each rank has its blocks of stage k
  broadcasts_bring : (left right first : ℕ → ℕ → M) (n m k : ℕ) (state : State M) → k < q → AtStage ops q left right first n m state → HasBlocks q left right k (meaning ops (broadcasts q k) state)
  broadcasts_bring left right first n m k state l at =
      let one = meaning ops (rows k) state in
      let join = meaning-append ops (rows k) (columns k) state in
      let low = after_result k in
      record {
        a = λ i j p h.
            let t : (nat_le 0 i && nat_lt i (0 + q)) ≡ true = grind (arith, nat_tests) in
            ap (λ x. x (i * q + j) (left_slot k)) join
            ∙ groups_stay ops (column_group q) (λ j. k * q + j) (λ j. tagged (2 * k + 1)) 1 (right_slot k) 0 q one (column_root k l) (i * q + j) (left_slot k) (omega arith)
            ∙ groups_spread ops (row_group q) (λ i. i * q + k) (λ i. tagged (2 * k)) 0 (left_slot k) 0 q state (omega arith) (row_root k l) (i * q + j) i (λ g _. in_row q i j g h)
            ∙ rw t (at.a i k p l);
        b = λ i j p h.
            let t : (nat_le 0 j && nat_lt j (0 + q)) ≡ true = grind (arith, nat_tests) in
            ap (λ x. x (i * q + j) (right_slot k)) join
            ∙ groups_spread ops (column_group q) (λ j. k * q + j) (λ j. tagged (2 * k + 1)) 1 (right_slot k) 0 q one (omega arith) (column_root k l) (i * q + j) j (λ g b. in_column q i j g p h (omega arith))
            ∙ rw t (groups_stay ops (row_group q) (λ i. i * q + k) (λ i. tagged (2 * k)) 0 (left_slot k) 0 q state (row_root k l) (k * q + j) 1 (omega arith) ∙ at.b k j l h);
      }

  -- the blocks of an earlier stage stay
  blocks_stay : (left right : ℕ → ℕ → M) (m k : ℕ) (state : State M) → m < k → k < q → HasBlocks q left right m state → HasBlocks q left right m (meaning ops (broadcasts q k) state)
  blocks_stay left right m k state e l has =
      let after = after_earlier m k e in
      record {
        a = λ i j p h. broadcasts_stay k state l (i * q + j) (left_slot m) (omega arith) (omega arith) ∙ has.a i j p h;
        b = λ i j p h. broadcasts_stay k state l (i * q + j) (right_slot m) (omega arith) (omega arith) ∙ has.b i j p h;
      }

  -- the blocks of one stage more
  pub one_arrives : (left right first : ℕ → ℕ → M) (k : ℕ) (state : State M) → k < q → AtStage ops q left right first k 0 state → AtStage ops q left right first (k + 1) 0 (meaning ops (broadcasts q k) state)
  one_arrives left right first k state l at =
      let low = after_result k in
      let next = meaning ops (broadcasts q k) state in
      record {
        a = λ i j p h. broadcasts_stay k state l (i * q + j) 0 (omega arith) (omega arith) ∙ at.a i j p h;
        b = λ i j p h. broadcasts_stay k state l (i * q + j) 1 (omega arith) (omega arith) ∙ at.b i j p h;
        blocks = λ m e.
            split (m == k)
            (λ t. let is : k ≡ m = grind (arith, nat_tests) in subst (λ x. HasBlocks q left right x next) is (broadcasts_bring left right first k 0 k state l at))
            (λ f. let before : m < k = grind (arith, nat_tests) in blocks_stay left right m k state before l (at.blocks m before));
        total = λ i j p h. broadcasts_stay k state l (i * q + j) 2 (omega arith) (omega arith) ∙ at.total i j p h;
      }

  -- each rank adds the product of its two blocks of one stage more
  pub one_adds : (left right first : ℕ → ℕ → M) (k : ℕ) (state : State M) → k < q → AtStage ops q left right first q k state → AtStage ops q left right first q (k + 1) (meaning ops (products q k) state)
  one_adds left right first k state l at =
      let has = at.blocks k l in
      record {
        a = λ i j p h. each_elsewhere ops q (product_op k) state (i * q + j) 0 (omega arith) ∙ at.a i j p h;
        b = λ i j p h. each_elsewhere ops q (product_op k) state (i * q + j) 1 (omega arith) ∙ at.b i j p h;
        blocks = λ m e.
            let low = after_result m in
            record {
              a = λ i j p h. each_elsewhere ops q (product_op k) state (i * q + j) (left_slot m) (omega arith) ∙ (at.blocks m e).a i j p h;
              b = λ i j p h. each_elsewhere ops q (product_op k) state (i * q + j) (right_slot m) (omega arith) ∙ (at.blocks m e).b i j p h;
            };
        total = λ i j p h.
            let e : k + 1 ≡ suc k = omega arith in
            each_here ops q (product_op k) state i j p h
            ∙ ap (λ x. three ops.mul_add x (state (i * q + j) (right_slot k)) (state (i * q + j) 2)) (has.a i j p h)
            ∙ ap (λ x. three ops.mul_add (Some (left i k)) x (state (i * q + j) 2)) (has.b i j p h)
            ∙ ap (λ x. three ops.mul_add (Some (left i k)) (Some (right k j)) x) (at.total i j p h)
            ∙ rw e refl;
      }

  -- if what holds before the acts of one stage holds after them for the next, it holds after those of all
  each_takes : (f : ℕ → List Act) (P : ℕ → State M → Type 0) → ((k : ℕ) (state : State M) → k < q → P k state → P (k + 1) (meaning ops (f k) state)) →
      (k n : ℕ) (state : State M) → k + n ≡ q → P k state → P q (meaning ops (flat_map f (range_with_len k n)) state)
  each_takes f P one k zero state e at = let is : k ≡ q = omega arith in subst (λ x. P x state) is at
  each_takes f P one k (suc n) state e at =
      subst (P q) (sym (meaning-append ops (f k) (flat_map f (range_with_len (k + 1) n)) state))
      (each_takes f P one (k + 1) n (meaning ops (f k) state) (omega arith) (one k state (omega arith) at))

  -- the blocks of all stages
  pub all_arrive : (left right first : ℕ → ℕ → M) (state : State M) → AtStage ops q left right first 0 0 state → AtStage ops q left right first q 0 (meaning ops (all_broadcasts q) state)
  all_arrive left right first state at = each_takes (broadcasts q) (λ n s. AtStage ops q left right first n 0 s) (one_arrives left right first) 0 q state (omega arith) at

  -- and then the products of all
  all_add : (left right first : ℕ → ℕ → M) (state : State M) → AtStage ops q left right first q 0 state → AtStage ops q left right first q q (meaning ops (all_products q) state)
  all_add left right first state at = each_takes (products q) (λ k s. AtStage ops q left right first q k s) (one_adds left right first) 0 q state (omega arith) at

  -- the slots after the zeros
  pub at_start : (a b : Extent) (left right : ℕ → ℕ → M) (state : State M) →
      ((i j : ℕ) → i < q → j < q → state (i * q + j) 0 ≡ Some (left i j)) → ((i j : ℕ) → i < q → j < q → state (i * q + j) 1 ≡ Some (right i j)) →
      AtStage ops q left right (λ i j. ops.empty (part_shape q (result_shape a b) i j)) 0 0 (meaning ops (each_rank q (zero_op q 2 (result_shape a b))) state)
  at_start a b left right state has_a has_b = record {
    a = λ i j p h. each_elsewhere ops q (zero_op q 2 (result_shape a b)) state (i * q + j) 0 (omega arith) ∙ has_a i j p h;
    b = λ i j p h. each_elsewhere ops q (zero_op q 2 (result_shape a b)) state (i * q + j) 1 (omega arith) ∙ has_b i j p h;
    blocks = λ m e. absurd (omega arith);
    total = λ i j p h. each_here ops q (zero_op q 2 (result_shape a b)) state i j p h ∙ at_place (λ x y. Some (ops.empty (part_shape q (result_shape a b) x y))) q i j h;
  }

  -- the acts that make the product, part by part
  product_parts : (a b : Extent) (state : State M) → meaning ops (product_acts q a b) state ≡ meaning ops (all_products q) (meaning ops (all_broadcasts q) (meaning ops (each_rank q (zero_op q 2 (result_shape a b))) state))
  product_parts a b state =
      let zeros = each_rank q (zero_op q 2 (result_shape a b)) in
      meaning-append ops zeros (all_broadcasts q ++ all_products q) state ∙ meaning-append ops (all_broadcasts q) (all_products q) (meaning ops zeros state)

  -- the slots after the acts that make the product: the operands, and what all stages add up to
  pub after_products : (a b : Extent) (left right : ℕ → ℕ → M) (state : State M) →
      ((i j : ℕ) → i < q → j < q → state (i * q + j) 0 ≡ Some (left i j)) → ((i j : ℕ) → i < q → j < q → state (i * q + j) 1 ≡ Some (right i j)) →
      AtStage ops q left right (λ i j. ops.empty (part_shape q (result_shape a b) i j)) q q (meaning ops (product_acts q a b) state)
  after_products a b left right state has_a has_b =
      let first : ℕ → ℕ → M = λ i j. ops.empty (part_shape q (result_shape a b) i j) in
      let one = meaning ops (each_rank q (zero_op q 2 (result_shape a b))) state in
      subst (AtStage ops q left right first q q) (sym (product_parts a b state))
      (all_add left right first (meaning ops (all_broadcasts q) one) (all_arrive left right first one (at_start a b left right state has_a has_b)))

  -- they leave the slot of the mask
  pub products_leave : (a b : Extent) (state : State M) (r : ℕ) → meaning ops (product_acts q a b) state r 7 ≡ state r 7
  products_leave a b state r =
      let one = meaning ops (each_rank q (zero_op q 2 (result_shape a b))) state in
      let two = meaning ops (all_broadcasts q) one in
      let arrive : two r 7 ≡ state r 7 =
      each_takes (broadcasts q) (λ _ s. s r 7 ≡ state r 7) (λ k s l e. let n = not_mask k in broadcasts_stay k s l r 7 n.0 n.1 ∙ e) 0 q one (omega arith)
      (each_elsewhere ops q (zero_op q 2 (result_shape a b)) state r 7 (omega arith)) in
      ap (λ x. x r 7) (product_parts a b state)
      ∙ each_takes (products q) (λ _ s. s r 7 ≡ state r 7) (λ k s l e. each_elsewhere ops q (product_op k) s r 7 (omega arith) ∙ e) 0 q two (omega arith) arrive
