-- Operations that each rank does on its own slots, one after the other: what they leave, and that they pass the
-- check. Lists of acts of which one alone sets a slot.
use Rattle.std.proofs.Common.{◌≡◌, ◌≢◌, ℕ, zero, suc, ◌+◌, ◌*◌, ◌<◌, ◌≤◌, true, false, List, [], ◌∷◌, ◌++◌, map, refl, sym, ap, subst, ◌∙◌, arith}
use Rattle.std.specs.Prelude.{Option, ◌==◌, if◌then◌else◌, flat_map}
use Rattle.std.specs.List.{range_with_len}
use Rattle.std.proofs.lemmas.Bool.Decides.{nat_tests}
use Rattle.cb_matrix.specs.Sparse.{Extent}
use Rattle.cb_plan.specs.declared.acts.Op.{Op}
use Rattle.cb_plan.specs.declared.acts.Act.{Act}
use Rattle.cb_plan.specs.declared.acts.Act.TheVariants as act_is
use Rattle.cb_plan.specs.Meaning.{Algebra, State, act, meaning, target_of, result_of}
use Rattle.cb_plan.specs.Algebras.{shapes}
use Rattle.cb_plan.specs.Checks.{Lanes}
use Rattle.cb_plan.proofs.Effects.{split, meaning-append}
use Rattle.cb_plan_parts.specs.Flows.{Flows}
use Rattle.cb_plan_parts.proofs.Flows.{flows_each, CanWork, work_is_sound}
use Rattle.cb_plan_operations.specs.VectorPlans.{works, each_works}

-- lists of acts for the numbers of a range, seen at one slot
module _ {M : Type 0} (ops : Algebra M) (f : ℕ → List Act) (r x : ℕ) where
  -- no list changes it
  pub each_skips : (a n : ℕ) (state : State M) → ((g : ℕ) → a ≤ g → g < a + n → (st : State M) → meaning ops (f g) st r x ≡ st r x) → meaning ops (flat_map f (range_with_len a n)) state r x ≡ state r x
  each_skips a zero state skip = refl
  each_skips a (suc n) state skip =
      ap (λ st. st r x) (meaning-append ops (f a) (flat_map f (range_with_len (a + 1) n)) state)
      ∙ each_skips (a + 1) n (meaning ops (f a) state) (λ g l m. skip g (omega arith) (omega arith))
      ∙ skip a (omega arith) (omega arith) state

  -- the list of number h sets it to what v says, and no other list changes it, or what v says
  pub each_sets : (h : ℕ) (v : State M → Option M) (a n : ℕ) (state : State M) → a ≤ h → h < a + n →
      ((st : State M) → meaning ops (f h) st r x ≡ v st) →
      ((g : ℕ) → a ≤ g → g < a + n → g ≢ h → (st : State M) → meaning ops (f g) st r x ≡ st r x) →
      ((g : ℕ) → a ≤ g → g < a + n → g ≢ h → (st : State M) → v (meaning ops (f g) st) ≡ v st) →
      meaning ops (flat_map f (range_with_len a n)) state r x ≡ v state
  each_sets h v a zero state l m here others same = absurd (omega arith)
  each_sets h v a (suc n) state l m here others same =
      let next = meaning ops (f a) state in
      ap (λ st. st r x) (meaning-append ops (f a) (flat_map f (range_with_len (a + 1) n)) state)
      ∙ split (a == h)
      (λ t.
      let e : a ≡ h = grind (arith, nat_tests) in
      each_skips (a + 1) n next (λ g i j. others g (omega arith) (omega arith) (let ne : g ≢ h = omega arith in ne))
      ∙ subst (λ k. meaning ops (f k) state r x ≡ v state) (sym e) (here state))
      (λ t.
      let ne : a ≢ h = grind (arith, nat_tests) in
      each_sets h v (a + 1) n next (grind (arith, nat_tests)) (omega arith) here
      (λ g i j. others g (omega arith) (omega arith)) (λ g i j. same g (omega arith) (omega arith))
      ∙ same a (omega arith) (omega arith) ne state)

-- ---- operations of one rank
module _ {M : Type 0} (ops : Algebra M) where
  -- the slots of a rank after an operation
  abbrev pub after_op : Op → (ℕ → Option M) → ℕ → Option M
  after_op op slots n = if target_of op == n then result_of ops op slots else slots n

  -- and after some
  abbrev pub after_ops : List Op → (ℕ → Option M) → ℕ → Option M
  after_ops [] slots = slots
  after_ops (op ∷ more) slots = after_ops more (after_op op slots)

  -- the slots after two lists of operations, one after the other
  pub after_ops-append : (xs ys : List Op) (slots : ℕ → Option M) → after_ops (xs ++ ys) slots ≡ after_ops ys (after_ops xs slots)
  after_ops-append [] ys slots = refl
  after_ops-append (x ∷ xs) ys slots = after_ops-append xs ys (after_op x slots)

  -- lists of operations that leave a slot as it was
  pub lists_skip : (f : ℕ → List Op) (n : ℕ) → ((k : ℕ) (slots : ℕ → Option M) → after_ops (f k) slots n ≡ slots n) → (a m : ℕ) (slots : ℕ → Option M) → after_ops (flat_map f (range_with_len a m)) slots n ≡ slots n
  lists_skip f n skip a zero slots = refl
  lists_skip f n skip a (suc m) slots =
      ap (λ s. s n) (after_ops-append (f a) (flat_map f (range_with_len (a + 1) m)) slots)
      ∙ lists_skip f n skip (a + 1) m (after_ops (f a) slots)
      ∙ skip a slots

  -- operations that set other slots
  pub ops_skip : (f : ℕ → Op) (n a m : ℕ) (slots : ℕ → Option M) → ((k : ℕ) → a ≤ k → target_of (f k) ≢ n) → after_ops (map f (range_with_len a m)) slots n ≡ slots n
  ops_skip f n a zero slots skip = refl
  ops_skip f n a (suc m) slots skip =
      let ne : target_of (f a) ≢ n = skip a (omega arith) in
      let off : (target_of (f a) == n) ≡ false = grind (arith, nat_tests) in
      ops_skip f n (a + 1) m (after_op (f a) slots) (λ k l. skip k (omega arith)) ∙ rw off refl

  works_here : (r : ℕ) (xs : List Op) (state : State M) → meaning ops (works r xs) state r ≡ after_ops xs (state r)
  works_here r [] state = refl
  works_here r (x ∷ xs) state =
      let own : (r == r) ≡ true = grind (arith, nat_tests) in
      let is : act ops (act_is.Work r x) state r ≡ after_op x (state r) = λ i n. (let h : act ops (act_is.Work r x) state r n ≡ after_op x (state r) n = rw own refl in h) i in
      works_here r xs (act ops (act_is.Work r x) state) ∙ ap (after_ops xs) is

  works_elsewhere : (r k n : ℕ) (xs : List Op) (state : State M) → (r == k) ≡ false → meaning ops (works r xs) state k n ≡ state k n
  works_elsewhere r k n [] state f = refl
  works_elsewhere r k n (x ∷ xs) state f = works_elsewhere r k n xs (act ops (act_is.Work r x) state) f ∙ rw f refl

  -- the slots of a rank after each rank did its operations
  pub each_works_here : (q : ℕ) (xs : ℕ → List Op) (state : State M) (r : ℕ) → r < q * q → meaning ops (each_works q xs) state r ≡ after_ops (xs r) (state r)
  each_works_here q xs state r l =
      let off : (g : ℕ) → g ≢ r → (g == r) ≡ false = λ g ne. grind (arith, nat_tests) in
      λ i x. each_sets ops (λ k. works k (xs k)) r x r (λ st. after_ops (xs r) (st r) x) 0 (q * q) state (omega arith) (omega arith)
      (λ st. ap (λ s. s x) (works_here r (xs r) st))
      (λ g _ _ ne st. works_elsewhere g r x (xs g) st (off g ne))
      (λ g _ _ ne st. ap (λ s. after_ops (xs r) s x) (λ j y. works_elsewhere g r y (xs g) st (off g ne) j)) i

  -- a slot that none of its operations sets
  pub each_works_skip : (q : ℕ) (xs : ℕ → List Op) (state : State M) (r x : ℕ) → ((g : ℕ) (slots : ℕ → Option M) → after_ops (xs g) slots x ≡ slots x) → meaning ops (each_works q xs) state r x ≡ state r x
  each_works_skip q xs state r x skip = each_skips ops (λ k. works k (xs k)) r x 0 (q * q) state (λ g _ _ st.
      split (g == r)
      (λ t.
      let e : g ≡ r = grind (arith, nat_tests) in
      subst (λ k. meaning ops (works k (xs g)) st r x ≡ st r x) (sym e) (ap (λ s. s x) (works_here r (xs g) st) ∙ skip g (st r)))
      (λ t. works_elsewhere g r x (xs g) st t))

-- ---- operations that pass the check
-- each finds what it asks for
abbrev pub CanDo : ℕ → ℕ → (ℕ → Option Extent) → List Op → Type 0
CanDo ranks rank slots [] = Unit {0}
CanDo ranks rank slots (op ∷ ops) = CanWork ranks rank slots op × CanDo ranks rank (after_op shapes op slots) ops

-- two lists of operations find what they ask for if the first does, and the second after it
pub can_do_both : (ranks rank : ℕ) (slots : ℕ → Option Extent) (xs ys : List Op) → CanDo ranks rank slots xs → CanDo ranks rank (after_ops shapes xs slots) ys → CanDo ranks rank slots (xs ++ ys)
can_do_both ranks rank slots [] ys h k = k
can_do_both ranks rank slots (x ∷ xs) ys h k = (h.0, can_do_both ranks rank (after_op shapes x slots) xs ys h.1 k)

works_flow : (ranks rank : ℕ) (shut : Lanes) (xs : List Op) (state : State Extent) → CanDo ranks rank (state rank) xs → Flows ranks shut state (works rank xs)
works_flow ranks rank shut [] state can = record { passes = tt; lanes = refl }
works_flow ranks rank shut (x ∷ xs) state can =
    let own : (rank == rank) ≡ true = grind (arith, nat_tests) in
    let next : State Extent = act shapes (act_is.Work rank x) state in
    let is : next rank ≡ after_op shapes x (state rank) = λ i n. (let h : next rank n ≡ after_op shapes x (state rank) n = rw own refl in h) i in
    let rest = works_flow ranks rank shut xs next (subst (λ (slots : ℕ → Option Extent). CanDo ranks rank slots xs) (sym is) can.1) in
    record { passes = (work_is_sound ranks rank state shut x can.0, rest.passes); lanes = rest.lanes }

-- the operations of all ranks, if each rank can do its own
pub each_works_flow : (q : ℕ) (shut : Lanes) (xs : ℕ → List Op) (state : State Extent) → ((r : ℕ) → r < q * q → CanDo (q * q) r (state r) (xs r)) → Flows (q * q) shut state (each_works q xs)
each_works_flow q shut xs state can =
    flows_each (q * q) shut (λ r. works r (xs r)) (λ k st. (r : ℕ) → k ≤ r → r < q * q → CanDo (q * q) r (st r) (xs r)) (q * q)
    (λ k st l have. (
      works_flow (q * q) k shut (xs k) st (have k (omega arith) l),
      λ r m b.
          let off : (k == r) ≡ false = grind (arith, nat_tests) in
          let same : meaning shapes (works k (xs k)) st r ≡ st r = λ i n. works_elsewhere shapes k r n (xs k) st off i in
          subst (λ (slots : ℕ → Option Extent). CanDo (q * q) r slots (xs r)) (sym same) (have r (omega arith) b),
    )) 0 (q * q) state (omega arith) (λ r _ l. can r l)
