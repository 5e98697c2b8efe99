-- Sums by the laws of a semiring.
use Rattle.std.proofs.Common.{◌≡◌, ◌≢◌, ℕ, zero, suc, ◌+◌, ◌<◌, ◌≤◌, Bool, true, false, cond, ◌⊎◌, ⊎_elim, List, [], ◌∷◌, ◌++◌, map, sym, refl, ap, ◌∙◌, arith}
use Rattle.std.specs.Prelude.{All, filter}
use Rattle.std.specs.List.{range_with_len}
use Rattle.std.proofs.lemmas.Bool.{cases_eq}
use Rattle.std.proofs.lemmas.List.{map-append}
use Rattle.std.proofs.lemmas.List.Elements.{All-head, All-tail, All-cons, All-nil, filter-append}
use Rattle.cb_semirings.specs.Arithmetic.{Arithmetic, IsValue, IsSemiring}
use Rattle.cb_matrix.specs.declared.Entry.{Entry}
use Rattle.cb_matrix.specs.Sparse.{is_at, value_at}
use Rattle.cb_matrix.specs.Values.{total, values_at}

module _ (s : Arithmetic) (laws : IsSemiring s) where
  -- zero is neutral on the right too
  pub add_zero : (x : ℕ) → IsValue s x → s.add x s.zero ≡ x
  add_zero x h = laws.add_comm x s.zero h laws.zero_value ∙ laws.zero_add x h

  -- a sum of values is a value
  pub total_value : (xs : List ℕ) → All (IsValue s) xs → IsValue s (total s xs)
  unfolding total
  total_value [] h = laws.zero_value
  total_value (x ∷ xs) h = laws.add_value x (total s xs) (All-head (IsValue s) x xs h) (total_value xs (All-tail (IsValue s) x xs h))

  -- the sum of two lists, one after the other
  pub total-append : (xs ys : List ℕ) → All (IsValue s) xs → All (IsValue s) ys → total s (xs ++ ys) ≡ s.add (total s xs) (total s ys)
  unfolding total
  total-append [] ys h k = sym (laws.zero_add (total s ys) (total_value ys k))
  total-append (x ∷ xs) ys h k =
      ap (s.add x) (total-append xs ys (All-tail (IsValue s) x xs h) k)
      ∙ sym (laws.add_assoc x (total s xs) (total s ys) (All-head (IsValue s) x xs h) (total_value xs (All-tail (IsValue s) x xs h)) (total_value ys k))

  -- the sum of one value
  pub total-one : (x : ℕ) → IsValue s x → total s (x ∷ []) ≡ x
  unfolding total
  total-one x h = add_zero x h

  -- values of a semiring are given at each place
  pub values_at-values : (es : List Entry) (i j : ℕ) → All (λ e. IsValue s e.value) es → All (IsValue s) (values_at es i j)
  values_at-values [] i j h = All-nil (IsValue s)
  values_at-values (e ∷ es) i j h =
      let rest = values_at-values es i j (All-tail (λ e. IsValue s e.value) e es h) in
      elim (is_at i j e) as (λ b. All (IsValue s) (map (λ (e : Entry). e.value) (cond b (e ∷ filter (is_at i j) es) (filter (is_at i j) es)))) [
        | true ↦ All-cons (IsValue s) e.value (values_at es i j) (All-head (λ e. IsValue s e.value) e es h) rest
        | false ↦ rest
      ]

  -- a value of the semiring is at each place
  pub value_at-value : (es : List Entry) (i j : ℕ) → All (λ e. IsValue s e.value) es → IsValue s (value_at s.zero es i j)
  unfolding value_at
  value_at-value [] i j h = laws.zero_value
  value_at-value (e ∷ es) i j h =
      elim (is_at i j e) as (λ b. IsValue s (cond b e.value (value_at s.zero es i j))) [
        | true ↦ All-head (λ e. IsValue s e.value) e es h
        | false ↦ value_at-value es i j (All-tail (λ e. IsValue s e.value) e es h)
      ]

  -- a function whose values are of the semiring has them along a list
  pub each_value : (f : ℕ → ℕ) → ((k : ℕ) → IsValue s (f k)) → (ks : List ℕ) → All (IsValue s) (map f ks)
  each_value f h [] = All-nil (IsValue s)
  each_value f h (k ∷ ks) = All-cons (IsValue s) (f k) (map f ks) (h k) (each_value f h ks)

  -- a sum of zeros is zero
  pub total-zero : (f : ℕ → ℕ) (a n : ℕ) → ((k : ℕ) → a ≤ k → f k ≡ s.zero) → total s (map f (range_with_len a n)) ≡ s.zero
  unfolding total
  total-zero f a zero h = refl
  total-zero f a (suc n) h = ap (λ x. s.add x (total s (map f (range_with_len (a + 1) n)))) (h a (omega arith)) ∙ ap (s.add s.zero) (total-zero f (a + 1) n (λ k l. h k (omega arith))) ∙ laws.zero_add s.zero laws.zero_value

  -- the sum of values of which all but one are zero
  pub total-single : (f : ℕ → ℕ) (a n c : ℕ) → ((k : ℕ) → IsValue s (f k)) → a ≤ c → c < a + n → ((k : ℕ) → k ≢ c → f k ≡ s.zero) → total s (map f (range_with_len a n)) ≡ f c
  unfolding total
  total-single f a zero c v l m h = absurd (omega arith)
  total-single f a (suc n) c v l m h =
      ⊎_elim
      (λ (e : a ≡ c).
      ap (s.add (f a)) (total-zero f (a + 1) n (λ k q. h k (λ p. omega arith))) ∙ add_zero (f a) (v a) ∙ ap f e)
      (λ (ne : a ≡ c → ⊥).
      ap (λ x. s.add x (total s (map f (range_with_len (a + 1) n)))) (h a ne)
      ∙ laws.zero_add (total s (map f (range_with_len (a + 1) n))) (total_value (map f (range_with_len (a + 1) n)) (each_value f v (range_with_len (a + 1) n)))
      ∙ total-single f (a + 1) n c v (let p : a ≢ c = ne in omega arith) (omega arith) h)
      (cases_eq a c)

  -- two sums, added in another order
  pub swap_middle : (w x y z : ℕ) → IsValue s w → IsValue s x → IsValue s y → IsValue s z → s.add (s.add w x) (s.add y z) ≡ s.add (s.add w y) (s.add x z)
  swap_middle w x y z hw hx hy hz =
      laws.add_assoc w x (s.add y z) hw hx (laws.add_value y z hy hz)
      ∙ ap (s.add w) (sym (laws.add_assoc x y z hx hy hz) ∙ ap (λ n. s.add n z) (laws.add_comm x y hx hy) ∙ laws.add_assoc y x z hy hx hz)
      ∙ sym (laws.add_assoc w y (s.add x z) hw hy (laws.add_value x z hx hz))

  -- the sum of sums is the sum of the first, and of the second
  pub total-add : (f g : ℕ → ℕ) → ((k : ℕ) → IsValue s (f k)) → ((k : ℕ) → IsValue s (g k)) → (ks : List ℕ) → total s (map (λ k. s.add (f k) (g k)) ks) ≡ s.add (total s (map f ks)) (total s (map g ks))
  unfolding total
  total-add f g hf hg [] = sym (laws.zero_add s.zero laws.zero_value)
  total-add f g hf hg (k ∷ ks) =
      ap (s.add (s.add (f k) (g k))) (total-add f g hf hg ks)
      ∙ swap_middle (f k) (g k) (total s (map f ks)) (total s (map g ks)) (hf k) (hg k) (total_value (map f ks) (each_value f hf ks)) (total_value (map g ks) (each_value g hg ks))

  -- a product distributes over a sum of which one part is zero
  pub add_mul-zero : (x y z : ℕ) → IsValue s x → IsValue s y → IsValue s z → (x ≡ s.zero) ⊎ (y ≡ s.zero) → s.mul (s.add x y) z ≡ s.add (s.mul x z) (s.mul y z)
  add_mul-zero x y z hx hy hz one = ⊎_elim
      (λ (e : x ≡ s.zero).
      ap (λ n. s.mul n z) (ap (λ n. s.add n y) e ∙ laws.zero_add y hy)
      ∙ sym (ap (λ n. s.add n (s.mul y z)) (ap (λ n. s.mul n z) e ∙ laws.zero_mul z hz) ∙ laws.zero_add (s.mul y z) (laws.mul_value y z hy hz)))
      (λ (e : y ≡ s.zero).
      ap (λ n. s.mul n z) (ap (s.add x) e ∙ add_zero x hx)
      ∙ sym (ap (s.add (s.mul x z)) (ap (λ n. s.mul n z) e ∙ laws.zero_mul z hz) ∙ add_zero (s.mul x z) (laws.mul_value x z hx hz)))
      one

  -- and so on its other side
  pub mul_add-zero : (x y z : ℕ) → IsValue s x → IsValue s y → IsValue s z → (y ≡ s.zero) ⊎ (z ≡ s.zero) → s.mul x (s.add y z) ≡ s.add (s.mul x y) (s.mul x z)
  mul_add-zero x y z hx hy hz one = ⊎_elim
      (λ (e : y ≡ s.zero).
      ap (s.mul x) (ap (λ n. s.add n z) e ∙ laws.zero_add z hz)
      ∙ sym (ap (λ n. s.add n (s.mul x z)) (ap (s.mul x) e ∙ laws.mul_zero x hx) ∙ laws.zero_add (s.mul x z) (laws.mul_value x z hx hz)))
      (λ (e : z ≡ s.zero).
      ap (s.mul x) (ap (s.add y) e ∙ add_zero y hy)
      ∙ sym (ap (s.add (s.mul x y)) (ap (s.mul x) e ∙ laws.mul_zero x hx) ∙ add_zero (s.mul x y) (laws.mul_value x y hx hy)))
      one

  -- equal values have equal sums
  pub total-same : (f g : ℕ → ℕ) → ((k : ℕ) → f k ≡ g k) → (ks : List ℕ) → total s (map f ks) ≡ total s (map g ks)
  unfolding total
  total-same f g h [] = refl
  total-same f g h (k ∷ ks) = ap (λ x. s.add x (total s (map f ks))) (h k) ∙ ap (s.add (g k)) (total-same f g h ks)

  -- the sum of nothing
  pub total-nil : total s [] ≡ s.zero
  unfolding total
  total-nil = refl

  -- a list of values that begins with one, or does not
  pub one_more : (x : Entry) (xs : List Entry) (i j : ℕ) (b : Bool) → is_at i j x ≡ b → total s (values_at (x ∷ xs) i j) ≡ cond b (s.add x.value (total s (values_at xs i j))) (total s (values_at xs i j))
  unfolding total
  one_more x xs i j true h = rw h refl
  one_more x xs i j false h = rw h refl

-- what two lists give at a place
pub values_at-append : (xs ys : List Entry) (i j : ℕ) → values_at (xs ++ ys) i j ≡ values_at xs i j ++ values_at ys i j
values_at-append xs ys i j = ap (map (λ (e : Entry). e.value)) (filter-append (is_at i j) xs ys) ∙ map-append (λ (e : Entry). e.value) (filter (is_at i j) xs) (filter (is_at i j) ys)

-- what an entry gives at its place
pub values_at-here : (x : Entry) (i j : ℕ) → is_at i j x ≡ true → values_at (x ∷ []) i j ≡ x.value ∷ []
values_at-here x i j h = rw h refl

-- what it gives at others
pub values_at-elsewhere : (x : Entry) (i j : ℕ) → is_at i j x ≡ false → values_at (x ∷ []) i j ≡ []
values_at-elsewhere x i j h = rw h refl
