-- A walk without its rounds: each vertex once, and no dearer. So a short walk is enough.
use Rattle.std.proofs.Common.{◌≡◌, ◌≢◌, ℕ, ◌+◌, ◌<◌, ◌≤◌, true, false, ◌⊎◌, inl, inr, ⊎_elim, List, [], ◌∷◌, length, subst, sym, refl, ◌∙◌, arith}
use Rattle.std.specs.Prelude.{All, AllPairs, ◌==◌}
use Rattle.std.specs.List.{list_any}
use Rattle.std.proofs.lemmas.Bool.{cases_eq}
use Rattle.std.proofs.lemmas.Bool.Decides.{nat_tests, Decides-eqb}
use Rattle.std.proofs.lemmas.Map.Steps.{length-le_from_distinct_below}
use Rattle.std.proofs.lemmas.Map.Made.{IsDistinct-from_AllPairs}
use Rattle.std.proofs.lemmas.Option.{none-some}
use Rattle.std.proofs.lemmas.List.Elements.{All-cons, All-nil, All-head, All-tail}
use Rattle.cb_semirings.specs.Tables.{min_plus}
use Rattle.cb_matrix.specs.Sparse.{Sparse, at}
use Rattle.cb_matrix.proofs.Pairs.{AllPairs-tail, AllPairs-cons, AllPairs-nil}
use Rattle.cb_searches.specs.Walks.{IsWalk, steps, cost}
use Rattle.cb_searches.proofs.WalkCosts.{cost_front, walk_front, walk_edge, walk_rest, walk_first, steps_length}

below_limit : (m q : ℕ) (xs : List ℕ) → All (λ x. x < m) xs → list_any (λ x. q == x) xs ≡ true → q < m
below_limit m q [] all h = absurd (grind (arith, nat_tests))
below_limit m q (x ∷ xs) all h =
    ⊎_elim
    (λ (e : q ≡ x). let l = All-head (λ x. x < m) x xs all in omega arith)
    (λ (n : q ≡ x → ⊥). let f : (q == x) ≡ false = grind (arith, nat_tests) in let rest = rw f at h in below_limit m q xs (All-tail (λ x. x < m) x xs all) rest)
    (cases_eq q x)

-- numbers below a limit that are apart are at most as many
few_apart : (xs : List ℕ) (m : ℕ) → All (λ x. x < m) xs → AllPairs ◌≢◌ xs → length xs ≤ m
few_apart xs m all apart = length-le_from_distinct_below xs m (IsDistinct-from_AllPairs Decides-eqb xs apart) (λ q h. below_limit m q xs all h)

module _ (a : Sparse) where
  -- a walk from x to v whose vertices are apart, of at most this cost
  abbrev pub Simple : ℕ → ℕ → ℕ → Type 0
  Simple x v most = (us : List ℕ) × IsWalk min_plus a x v us × AllPairs ◌≢◌ us × (cost a us ≤ most)

  -- the part from x on, where x is a vertex of the walk
  from_vertex : (x y v : ℕ) (us : List ℕ) → IsWalk min_plus a y v us → AllPairs ◌≢◌ us → Simple x v (cost a us) ⊎ All (λ u. x ≢ u) us
  from_vertex x y v [] w apart = inr (All-nil (λ u. x ≢ u))
  from_vertex x y v (z ∷ []) w apart =
      ⊎_elim
      (λ (e : x ≡ z). let is : y ≡ x = sym (walk_first min_plus a y v z [] w) ∙ sym e in inl (z ∷ [], subst (λ (u : ℕ). IsWalk min_plus a u v (z ∷ [])) is w, apart, omega arith))
      (λ (n : x ≡ z → ⊥). inr (All-cons (λ u. x ≢ u) z [] n (All-nil (λ u. x ≢ u))))
      (cases_eq x z)
  from_vertex x y v (z ∷ t ∷ us) w apart =
      ⊎_elim
      (λ (e : x ≡ z). let is : y ≡ x = sym (walk_first min_plus a y v z (t ∷ us) w) ∙ sym e in inl (z ∷ t ∷ us, subst (λ (u : ℕ). IsWalk min_plus a u v (z ∷ t ∷ us)) is w, apart, omega arith))
      (λ (n : x ≡ z → ⊥).
      let less : cost a (t ∷ us) ≤ cost a (z ∷ t ∷ us) = omega (arith, cost_front a (t ∷ us) z t refl) in
      ⊎_elim
      (λ (p : Simple x v (cost a (t ∷ us))). inl (p.0, p.1, p.2, omega (arith, p.3)))
      (λ (all : All (λ u. x ≢ u) (t ∷ us)). inr (All-cons (λ u. x ≢ u) z (t ∷ us) n all))
      (from_vertex x t v (t ∷ us) (walk_rest min_plus a y v z t us w) (AllPairs-tail ◌≢◌ z (t ∷ us) apart)))
      (cases_eq x z)

  pub erased : (from v : ℕ) (w : List ℕ) → IsWalk min_plus a from v w → Simple from v (cost a w)
  erased from v [] w = absurd (none-some from w.begins)
  erased from v (x ∷ []) w = (x ∷ [], w, AllPairs-cons ◌≢◌ x [] (All-nil (λ u. x ≢ u)) (AllPairs-nil ◌≢◌), omega arith)
  erased from v (x ∷ y ∷ ys) w =
      let is : x ≡ from = walk_first min_plus a from v x (y ∷ ys) w in
      let e : at min_plus a x y ≢ min_plus.zero = walk_edge min_plus a from v x y ys w in
      let whole : cost a (x ∷ y ∷ ys) ≡ at min_plus a x y + cost a (y ∷ ys) = cost_front a (y ∷ ys) x y refl in
      let p : Simple y v (cost a (y ∷ ys)) = erased y v (y ∷ ys) (walk_rest min_plus a from v x y ys w) in
      subst (λ (z : ℕ). Simple z v (cost a (x ∷ y ∷ ys))) is
      (⊎_elim
      (λ (q : Simple x v (cost a p.0)). (q.0, q.1, q.2, omega (arith, whole, p.3, q.3)))
      (λ (all : All (λ u. x ≢ u) p.0). (x ∷ p.0, walk_front min_plus a x y v p.0 e p.1, AllPairs-cons ◌≢◌ x p.0 all p.2, omega (arith, whole, p.3, cost_front a p.0 x y p.1.begins)))
      (from_vertex x y v p.0 p.1 p.2))

  -- each vertex of a walk from a vertex is a vertex
  inside : (n : ℕ) → ((i j : ℕ) → at min_plus a i j ≢ min_plus.zero → j < n) → (from v : ℕ) (w : List ℕ) → from < n → IsWalk min_plus a from v w → All (λ u. u < n) w
  inside n edges from v [] l w = All-nil (λ u. u < n)
  inside n edges from v (x ∷ []) l w = All-cons (λ u. u < n) x [] (let e = walk_first min_plus a from v x [] w in omega arith) (All-nil (λ u. u < n))
  inside n edges from v (x ∷ y ∷ ys) l w =
      All-cons (λ u. u < n) x (y ∷ ys) (let e = walk_first min_plus a from v x (y ∷ ys) w in omega arith)
      (inside n edges y v (y ∷ ys) (edges x y (walk_edge min_plus a from v x y ys w)) (walk_rest min_plus a from v x y ys w))

  -- for each walk there is one of fewer steps than vertices that costs no more
  pub short_walk : (n : ℕ) → ((i j : ℕ) → at min_plus a i j ≢ min_plus.zero → j < n) → (from v : ℕ) (w : List ℕ) → from < n → IsWalk min_plus a from v w → (us : List ℕ) × IsWalk min_plus a from v us × (steps us < n) × (cost a us ≤ cost a w)
  short_walk n edges from v w l walk =
      let p : Simple from v (cost a w) = erased from v w walk in
      (p.0, p.1, omega (arith, steps_length p.0 v p.1.ends, few_apart p.0 n (inside n edges from v p.0 l p.1) p.2), p.3)
