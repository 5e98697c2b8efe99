-- Starts that are listed rank by rank: what stands at the start, that they exist, and that each slot is named once.
use Rattle.std.proofs.Common.{◌≡◌, ◌≢◌, ℕ, zero, suc, ◌+◌, ◌*◌, ◌/◌, ◌%◌, ◌<◌, ◌≤◌, Bool, true, false, List, [], ◌∷◌, ◌++◌, map, inl, inr, refl, sym, ap, subst, ◌∙◌, arith}
use Rattle.std.specs.Prelude.{Option, Some, None, ◌==◌, ◌&&◌, ◌||◌, not, nat_lt, if◌then◌else◌, flat_map, All, AllPairs}
use Rattle.std.specs.List.{range_with_len}
use Rattle.std.proofs.lemmas.Bool.Decides.{nat_tests}
use Rattle.std.proofs.lemmas.List.Elements.{All-nil, All-cons, All-append, All-weaker}
use Rattle.cb_matrix.specs.Sparse.{Extent}
use Rattle.cb_matrix.proofs.Pairs.{AllPairs-nil, AllPairs-cons, AllPairs-append}
use Rattle.cb_plan.specs.declared.acts.Start.{Start}
use Rattle.cb_plan.specs.Meaning.{State}
use Rattle.cb_plan.specs.Checks.{with_start, started_from, started, all_below}
use Rattle.cb_plan.specs.Plans.{IsElsewhere}
use Rattle.cb_plan.proofs.Effects.{split}
use Rattle.cb_plan_parts.specs.Collectives.{is_member, are_distinct}
use Rattle.cb_grid.specs.Parts.{part_shape}
use Rattle.cb_grid.proofs.Parts.{rank_below}
use Rattle.cb_plan_parts.specs.declared.first_slots.Operand.{Operand}
use Rattle.cb_plan_parts.specs.PlanParts.{part_start_at, starts_at, operand_starts, NamesSlots}
use Rattle.cb_plan_parts.proofs.Grid.{at_place}

-- starts in two lists
pub started_from-append : (xs ys : List Start) (state : State Extent) → started_from (xs ++ ys) state ≡ started_from ys (started_from xs state)
started_from-append [] ys state = refl
started_from-append (x ∷ xs) ys state = started_from-append xs ys (with_start x state)

-- the starts of each rank concern that rank alone, and change its slots by d
module _ (f : ℕ → List Start) (d : ℕ → ℕ → Option Extent → Option Extent)
    (own : (k r n : ℕ) (state : State Extent) → (k == r) ≡ false → started_from (f k) state r n ≡ state r n)
    (sets : (k n : ℕ) (state : State Extent) → started_from (f k) state k n ≡ d k n (state k n)) where
  -- the starts of other ranks leave the slots of a rank as they were
  pub starts_elsewhere : (a m : ℕ) (state : State Extent) (r n : ℕ) → ((k : ℕ) → a ≤ k → k < a + m → k ≢ r) → started_from (flat_map f (range_with_len a m)) state r n ≡ state r n
  starts_elsewhere a zero state r n h = refl
  starts_elsewhere a (suc m) state r n h =
      let ne : a ≢ r = h a (omega arith) (omega arith) in
      ap (λ x. x r n) (started_from-append (f a) (flat_map f (range_with_len (a + 1) m)) state)
      ∙ starts_elsewhere (a + 1) m (started_from (f a) state) r n (λ k l b. h k (omega arith) (omega arith))
      ∙ own a r n state (grind (arith, nat_tests))

  -- the starts of all ranks of a range change the slots of each by its own
  pub starts_there : (a m : ℕ) (state : State Extent) (r n : ℕ) → a ≤ r → r < a + m → started_from (flat_map f (range_with_len a m)) state r n ≡ d r n (state r n)
  starts_there a zero state r n l h = absurd (omega arith)
  starts_there a (suc m) state r n l h =
      ap (λ x. x r n) (started_from-append (f a) (flat_map f (range_with_len (a + 1) m)) state)
      ∙ split (a == r)
      (λ t.
      let e : a ≡ r = grind (arith, nat_tests) in
      starts_elsewhere (a + 1) m (started_from (f a) state) r n (λ k b c. let ne : k ≢ r = omega arith in ne)
      ∙ subst (λ k. started_from (f k) state r n ≡ d r n (state r n)) (sym e) (sets r n state))
      (λ t. starts_there (a + 1) m (started_from (f a) state) r n (grind (arith, nat_tests)) (omega arith) ∙ ap (d r n) (own a r n state t))

-- what holds of the starts of each rank holds of all
pub all_starts : (P : Start → Type 0) (f : ℕ → List Start) (a m : ℕ) → ((k : ℕ) → a ≤ k → k < a + m → All P (f k)) → All P (flat_map f (range_with_len a m))
all_starts P f a zero h = All-nil P
all_starts P f a (suc m) h =
    All-append P (f a) (flat_map f (range_with_len (a + 1) m)) (h a (omega arith) (omega arith)) (all_starts P f (a + 1) m (λ k l b. h k (omega arith) (omega arith)))

-- two starts of two ranks
apart : (s t : Start) (a : ℕ) → s.rank ≡ a → a + 1 ≤ t.rank → IsElsewhere s t
apart s t a e l = inl (let ne : s.rank ≢ t.rank = omega arith in ne)

-- if each rank names its own slots, each once, no slot is named twice
pub starts_once : (f : ℕ → List Start) → ((k : ℕ) → All (λ s. s.rank ≡ k) (f k)) → ((k : ℕ) → AllPairs IsElsewhere (f k)) → (a m : ℕ) → AllPairs IsElsewhere (flat_map f (range_with_len a m))
starts_once f named once a zero = AllPairs-nil IsElsewhere
starts_once f named once a (suc m) =
    let rest : List Start = flat_map f (range_with_len (a + 1) m) in
    let later : All (λ (s : Start). a + 1 ≤ s.rank) rest =
    all_starts (λ s. a + 1 ≤ s.rank) f (a + 1) m (λ k l b. All-weaker (λ (s : Start). s.rank ≡ k) (λ s. a + 1 ≤ s.rank) (λ s e. omega arith) (f k) (named k)) in
    AllPairs-append IsElsewhere (f a) rest (once a) (starts_once f named once (a + 1) m)
    (All-weaker (λ (s : Start). s.rank ≡ a) (λ s. All (IsElsewhere s) rest) (λ s e. All-weaker (λ (t : Start). a + 1 ≤ t.rank) (IsElsewhere s) (λ t l. apart s t a e l) rest later) (f a) (named a))

-- both of two tests hold
both_true : (b c : Bool) → (b && c) ≡ true → (b ≡ true) × (c ≡ true)
both_true true c h = (refl, h)
both_true false c h = absurd (grind (arith, nat_tests))

not_true : (b : Bool) → not b ≡ true → b ≡ false
not_true true h = absurd (grind (arith, nat_tests))
not_true false h = refl

neither : (b c : Bool) → (b || c) ≡ false → (b ≡ false) × (c ≡ false)
neither true c h = absurd (grind (arith, nat_tests))
neither false c h = (refl, h)

-- ---- the starts of operands
abbrev slots : List Operand → List ℕ
slots operands = map (λ (o : Operand). o.slot) operands

-- one shape more in a slot
abbrev pub with_shape : ℕ → Extent → Option Extent → ℕ → Option Extent
with_shape n shape x k = if n == k then Some shape else x

-- what slot n of rank r has after the starts of the operands, if it had x before
abbrev pub shape_with : ℕ → ℕ → List Operand → ℕ → Option Extent → Option Extent
shape_with q r [] n x = x
shape_with q r (o ∷ os) n x = shape_with q r os n (with_shape o.slot (part_shape q o.shape (r / q) (r % q)) x n)

-- and before the first act
abbrev pub shape_at : ℕ → List Operand → ℕ → ℕ → Option Extent
shape_at q operands r n = shape_with q r operands n None

module _ (q : ℕ) where
  own_alone : (operands : List Operand) (k r n : ℕ) (state : State Extent) → (k == r) ≡ false → started_from (starts_at q operands k) state r n ≡ state r n
  own_alone [] k r n state f = refl
  own_alone (o ∷ os) k r n state f = own_alone os k r n (with_start (part_start_at q o.slot k o.shape) state) f ∙ rw f refl

  own_set : (operands : List Operand) (k n : ℕ) (state : State Extent) → started_from (starts_at q operands k) state k n ≡ shape_with q k operands n (state k n)
  own_set [] k n state = refl
  own_set (o ∷ os) k n state =
      let e : (k == k) ≡ true = grind (arith, nat_tests) in
      let f : with_start (part_start_at q o.slot k o.shape) state k n ≡ with_shape o.slot (part_shape q o.shape (k / q) (k % q)) (state k n) n = rw e refl in
      own_set os k n (with_start (part_start_at q o.slot k o.shape) state) ∙ ap (shape_with q k os n) f

  module _ (operands : List Operand) where
    -- what a rank has at the start
    pub operands_there : (r n : ℕ) → r < q * q → started (operand_starts q operands) r n ≡ shape_at q operands r n
    operands_there r n l = starts_there (starts_at q operands) (λ k n x. shape_with q k operands n x) (own_alone operands) (own_set operands) 0 (q * q) (λ _ _. None) r n (omega arith) (omega arith)

    -- there are no other ranks
    pub operands_elsewhere : (r n : ℕ) → q * q ≤ r → started (operand_starts q operands) r n ≡ None
    operands_elsewhere r n l = starts_elsewhere (starts_at q operands) (λ k n x. shape_with q k operands n x) (own_alone operands) (own_set operands) 0 (q * q) (λ _ _. None) r n (λ k _ m. let ne : k ≢ r = omega arith in ne)

    -- slot n of each rank has its part of a shape, if the operands say so
    pub operand_parts : (n : ℕ) (shape : Extent) → ((r : ℕ) → shape_at q operands r n ≡ Some (part_shape q shape (r / q) (r % q))) → (i j : ℕ) → i < q → j < q → started (operand_starts q operands) (i * q + j) n ≡ Some (part_shape q shape i j)
    operand_parts n shape is i j l m = operands_there (i * q + j) n (rank_below q i j l m) ∙ is (i * q + j) ∙ at_place (λ x y. Some (part_shape q shape x y)) q i j m

  abbrev Exists : Start → Type 0
  Exists s = (s.rank < q * q) × (s.slot < 256)

  exist_at : (operands : List Operand) (r : ℕ) → r < q * q → all_below 256 (slots operands) ≡ true → All Exists (starts_at q operands r)
  exist_at [] r l h = All-nil Exists
  exist_at (o ∷ os) r l h =
      let parts = both_true (nat_lt o.slot 256) (all_below 256 (slots os)) h in
      let small : o.slot < 256 = (let t = parts.0 in grind (arith, nat_tests)) in
      All-cons Exists (part_start_at q o.slot r o.shape) (starts_at q os r) (l, small) (exist_at os r l parts.1)

  ranks_at : (operands : List Operand) (r : ℕ) → All (λ (s : Start). s.rank ≡ r) (starts_at q operands r)
  ranks_at [] r = All-nil (λ (s : Start). s.rank ≡ r)
  ranks_at (o ∷ os) r = All-cons (λ (s : Start). s.rank ≡ r) (part_start_at q o.slot r o.shape) (starts_at q os r) refl (ranks_at os r)

  elsewhere_at : (n r : ℕ) (shape : Extent) (operands : List Operand) → is_member (slots operands) n ≡ false → All (IsElsewhere (part_start_at q n r shape)) (starts_at q operands r)
  elsewhere_at n r shape [] h = All-nil (IsElsewhere (part_start_at q n r shape))
  elsewhere_at n r shape (o ∷ os) h =
      let parts = neither (o.slot == n) (is_member (slots os) n) h in
      let ne : n ≢ o.slot = (let t = parts.0 in grind (arith, nat_tests)) in
      All-cons (IsElsewhere (part_start_at q n r shape)) (part_start_at q o.slot r o.shape) (starts_at q os r) (inr ne) (elsewhere_at n r shape os parts.1)

  once_at : (operands : List Operand) (r : ℕ) → are_distinct (slots operands) ≡ true → AllPairs IsElsewhere (starts_at q operands r)
  once_at [] r h = AllPairs-nil IsElsewhere
  once_at (o ∷ os) r h =
      let parts = both_true (not (is_member (slots os) o.slot)) (are_distinct (slots os)) h in
      AllPairs-cons IsElsewhere (part_start_at q o.slot r o.shape) (starts_at q os r) (elsewhere_at o.slot r o.shape os (not_true (is_member (slots os) o.slot) parts.0)) (once_at os r parts.1)

  -- the starts name slots that exist, each once
  pub operands_exist : (operands : List Operand) → NamesSlots operands → All Exists (operand_starts q operands)
  operands_exist operands h =
      let below = (both_true (are_distinct (slots operands)) (all_below 256 (slots operands)) h).1 in
      all_starts Exists (starts_at q operands) 0 (q * q) (λ r l m. exist_at operands r (omega arith) below)

  -- no slot of a rank is started twice
  pub operands_once : (operands : List Operand) → NamesSlots operands → AllPairs IsElsewhere (operand_starts q operands)
  operands_once operands h =
      let distinct = (both_true (are_distinct (slots operands)) (all_below 256 (slots operands)) h).0 in
      starts_once (starts_at q operands) (ranks_at operands) (λ r. once_at operands r distinct) 0 (q * q)
