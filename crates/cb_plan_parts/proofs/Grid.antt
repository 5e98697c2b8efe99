-- Rows and columns of a grid, and the ranks that are in them.
use Rattle.std.proofs.Common.{◌≡◌, ◌≢◌, ℕ, zero, suc, ◌+◌, ◌*◌, ◌/◌, ◌%◌, ◌<◌, ◌≤◌, Bool, true, false, map, length, get_or, refl, sym, ap, subst, ◌∙◌, arith}
use Rattle.std.specs.Prelude.{◌==◌, ◌||◌}
use Rattle.std.specs.List.{range_with_len}
use Rattle.std.proofs.lemmas.Bool.Decides.{nat_tests}
use Rattle.std.proofs.lemmas.Nat.{div-mul-add, mod-mul-add}
use Rattle.std.proofs.lemmas.List.FromFn.{get_or-map-range_with_len, length-map-range_with_len}
use Rattle.cb_plan_parts.specs.Collectives.{is_member, AreDistinct}
use Rattle.cb_plan_parts.proofs.MemberPlaces.{distinct_from_apart}
use Rattle.cb_grid.specs.Parts.{row_group, column_group}
use Rattle.cb_grid.proofs.Parts.{rank_below}
use Rattle.cb_plan.proofs.Effects.{split}

-- a place of the grid is determined by its number
pub same_place : (q i j k l : ℕ) → j < q → l < q → i * q + j ≡ k * q + l → (i ≡ k) × (j ≡ l)
same_place q i j k l a b e =
    (sym (div-mul-add i q j a) ∙ ap (λ x. x / q) e ∙ div-mul-add k q l b, sym (mod-mul-add i q j a) ∙ ap (λ x. x % q) e ∙ mod-mul-add k q l b)

or_true : (b : Bool) → b || true ≡ true
or_true true = refl
or_true false = refl

-- what is said of the row and the column of a rank
pub at_place : {X : Type 0} (f : ℕ → ℕ → X) (q i j : ℕ) → j < q → f ((i * q + j) / q) ((i * q + j) % q) ≡ f i j
at_place f q i j l = ap (λ x. f x ((i * q + j) % q)) (div-mul-add i q j l) ∙ ap (f i) (mod-mul-add i q j l)

-- f has the value r at a number of the range
member_there : (f : ℕ → ℕ) (a n r h : ℕ) → a ≤ h → h < a + n → f h ≡ r → is_member (map f (range_with_len a n)) r ≡ true
member_there f a zero r h l m e = absurd (omega arith)
member_there f a (suc n) r h l m e =
    split (a == h)
    (λ t. let g : a ≡ h = grind (arith, nat_tests) in let is : (f a == r) ≡ true = rw g (grind (arith, nat_tests)) in rw is refl)
    (λ t. let ne : a + 1 ≤ h = grind (arith, nat_tests) in rw (member_there f (a + 1) n r h ne (omega arith) e) (or_true (f a == r)))

-- f has the value r at no number of the range
member_nowhere : (f : ℕ → ℕ) (a n r : ℕ) → ((k : ℕ) → k < a + n → f k ≡ r → ⊥) → is_member (map f (range_with_len a n)) r ≡ false
member_nowhere f a zero r h = refl
member_nowhere f a (suc n) r h =
    let ne : f a ≢ r = h a (omega arith) in
    let is : (f a == r) ≡ false = grind (arith, nat_tests) in
    rw is (member_nowhere f (a + 1) n r (λ k l. h k (omega arith)))

-- who is in a row
pub in_row : (q i j k : ℕ) → j < q → is_member (row_group q k) (i * q + j) ≡ (k == i)
in_row q i j k l =
    split (k == i)
    (λ t. let e : k ≡ i = grind (arith, nat_tests) in rw t (member_there (λ x. k * q + x) 0 q (i * q + j) j (omega arith) (omega arith) (rw e refl)))
    (λ f. let ne : k ≢ i = grind (arith, nat_tests) in rw f (member_nowhere (λ x. k * q + x) 0 q (i * q + j) (λ x m e. ne (same_place q k x i j (omega arith) l e).0)))

-- and who is in a column
pub in_column : (q i j k : ℕ) → i < q → j < q → k < q → is_member (column_group q k) (i * q + j) ≡ (k == j)
in_column q i j k m l b =
    split (k == j)
    (λ t. let e : k ≡ j = grind (arith, nat_tests) in rw t (member_there (λ x. x * q + k) 0 q (i * q + j) i (omega arith) (omega arith) (rw e refl)))
    (λ f. let ne : k ≢ j = grind (arith, nat_tests) in rw f (member_nowhere (λ x. x * q + k) 0 q (i * q + j) (λ x _ e. ne (same_place q x k i j b l e).1)))

module _ (q : ℕ) where
  -- the ranks of a row
  row_at : (i p : ℕ) → p < length (row_group q i) → (p < q) × (get_or (row_group q i) p 0 ≡ i * q + p)
  row_at i p l =
      let e : length (row_group q i) ≡ q = length-map-range_with_len (λ j. i * q + j) 0 q in
      let m : p < q = omega arith in
      (m, get_or-map-range_with_len (λ j. i * q + j) 0 q p p 0 m (omega arith))

  -- its members are ranks, and differ
  pub row_exists : (i : ℕ) → i < q → (p : ℕ) → p < length (row_group q i) → get_or (row_group q i) p 0 < q * q
  row_exists i h p l = let at = row_at i p l in subst (λ x. x < q * q) (sym at.1) (rank_below q i p h at.0)

  row_differs : (i : ℕ) → i < q → (p r : ℕ) → p < r → r < length (row_group q i) → get_or (row_group q i) p 0 ≢ get_or (row_group q i) r 0
  row_differs i h p r l m e =
      let one = row_at i p (omega arith) in
      let other = row_at i r m in
      let same = same_place q i p i r one.0 other.0 (sym one.1 ∙ e ∙ other.1) in
      omega (arith, same.1)

  -- no rank stands in a row twice
  pub row_distinct : (i : ℕ) → i < q → AreDistinct (row_group q i)
  row_distinct i h = distinct_from_apart (row_group q i) (row_differs i h)

  -- and of a column
  column_at : (j p : ℕ) → p < length (column_group q j) → (p < q) × (get_or (column_group q j) p 0 ≡ p * q + j)
  column_at j p l =
      let e : length (column_group q j) ≡ q = length-map-range_with_len (λ i. i * q + j) 0 q in
      let m : p < q = omega arith in
      (m, get_or-map-range_with_len (λ i. i * q + j) 0 q p p 0 m (omega arith))

  -- the members of a column are ranks
  pub column_exists : (j : ℕ) → j < q → (p : ℕ) → p < length (column_group q j) → get_or (column_group q j) p 0 < q * q
  column_exists j h p l = let at = column_at j p l in subst (λ x. x < q * q) (sym at.1) (rank_below q p j at.0 h)

  column_differs : (j : ℕ) → j < q → (p r : ℕ) → p < r → r < length (column_group q j) → get_or (column_group q j) p 0 ≢ get_or (column_group q j) r 0
  column_differs j h p r l m e =
      let one = column_at j p (omega arith) in
      let other = column_at j r m in
      let same = same_place q p j r j h h (sym one.1 ∙ e ∙ other.1) in
      omega (arith, same.0)

  -- no rank stands in a column twice
  pub column_distinct : (j : ℕ) → j < q → AreDistinct (column_group q j)
  column_distinct j h = distinct_from_apart (column_group q j) (column_differs j h)
