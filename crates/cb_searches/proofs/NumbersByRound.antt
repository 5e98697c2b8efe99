-- Numbers that near the least costs of walks, round by round.
use Rattle.std.proofs.Common.{◌≡◌, ◌≢◌, ℕ, ◌+◌, ◌<◌, ◌≤◌, ◌⊎◌, inl, inr, ⊎_elim, List, [], ◌∷◌, ◌++◌, subst, sym, refl, ap, ◌∙◌, arith}
use Rattle.std.specs.Prelude.{min}
use Rattle.std.proofs.lemmas.Bool.{cases_eq, cases_lt}
use Rattle.std.proofs.lemmas.Option.{none-some, same_Some}
use Rattle.cb_semirings.specs.Tables.{min_plus}
use Rattle.cb_matrix.specs.Sparse.{Sparse, at}
use Rattle.cb_searches.specs.Walks.{IsWalk, steps, cost, infinite}
use Rattle.cb_searches.specs.Searches.{Nearing}
use Rattle.cb_searches.proofs.WalkCosts.{cost_front, cost_more, steps_more, walk_here, walk_more, walk_rest, walk_first, walk_cases}
use Rattle.cb_searches.proofs.ShortWalks.{short_walk}

-- What the product of the turned matrix by x is.
pub record IsRound (a : Sparse) (x y : ℕ → ℕ) : Type 0 where
  pub stops : (v : ℕ) → y v ≤ infinite
  pub low : (u v : ℕ) → y v ≤ x u + at min_plus a u v
  pub some : (v : ℕ) → y v ≢ infinite → (u : ℕ) × (y v ≡ x u + at min_plus a u v)

module _ (a : Sparse) (source : ℕ) where
  -- at first only the source has a number
  pub started : (d x : ℕ → ℕ) → d source ≡ 0 → ((v : ℕ) → v ≢ source → d v ≡ infinite) → ((u : ℕ) → x u ≡ d u) → Nearing a source 0 d x
  started d x here there all = record {
    fits = λ v. ⊎_elim (λ (e : v ≡ source). let z : d v ≡ 0 = ap d e ∙ here in omega arith) (λ (n : v ≡ source → ⊥). let z = there v n in omega arith) (cases_eq v source);
    reached = λ v h. ⊎_elim
        (λ (e : v ≡ source). let z : d v ≡ 0 = ap d e ∙ here in (source ∷ [], subst (λ (u : ℕ). IsWalk min_plus a source u (source ∷ [])) (sym e) (walk_here min_plus a source), sym z))
        (λ (n : v ≡ source → ⊥). absurd (h (there v n)))
        (cases_eq v source);
    within = λ v w walk few. elim (walk_cases min_plus a source v w walk) as (λ _. d v ≤ cost a w) [
      | inl p ↦ let z : d v ≡ 0 = ap d (sym p.0) ∙ here in omega arith
      | inr p ↦ let n : steps w ≡ steps p.0 + 1 = ap steps p.4 ∙ steps_more p.0 p.1 v p.2.ends in absurd (omega arith)
    ];
    fell = λ u. inl (all u);
  }

  module _ (k : ℕ) (d x y e z : ℕ → ℕ) (before : Nearing a source k d x) (round : IsRound a x y) (least : (v : ℕ) → e v ≡ min (d v) (y v)) (new : (v : ℕ) → y v < d v → z v ≡ y v) (old : (v : ℕ) → d v ≤ y v → z v ≡ infinite) where
    after_fits : (v : ℕ) → e v ≤ infinite
    after_fits v = omega (arith, least v, before.fits v)

    after_reached : (v : ℕ) → e v ≢ infinite → (walk : List ℕ) × IsWalk min_plus a source v walk × (cost a walk ≡ e v)
    after_reached v h =
        elim (cases_lt (y v) (d v)) as (λ _. (walk : List ℕ) × IsWalk min_plus a source v walk × (cost a walk ≡ e v)) [
          | inr l ↦
              let same : e v ≡ d v = omega (arith, least v) in
              let w : (walk : List ℕ) × IsWalk min_plus a source v walk × (cost a walk ≡ d v) = before.reached v (λ i. h (same ∙ i)) in
              (w.0, w.1, w.2 ∙ sym same)
          | inl l ↦
              let same : e v ≡ y v = omega (arith, least v) in
              let p : (u : ℕ) × (y v ≡ x u + at min_plus a u v) = round.some v (λ i. h (same ∙ i)) in
              let below : y v < infinite = omega (arith, before.fits v) in
              let edge : at min_plus a p.0 v ≢ min_plus.zero = λ i. omega (arith, p.1, below) in
              let number : x p.0 ≡ d p.0 = ⊎_elim (λ (q : x p.0 ≡ d p.0). q) (λ (q : (x p.0 ≡ infinite) × ((v : ℕ) → d v ≤ d p.0 + at min_plus a p.0 v)). absurd (omega (arith, p.1, below, q.0))) (before.fell p.0) in
              let w : (walk : List ℕ) × IsWalk min_plus a source p.0 walk × (cost a walk ≡ d p.0) = before.reached p.0 (λ i. omega (arith, p.1, below, number, i)) in
              (w.0 ++ v ∷ [], walk_more min_plus a source p.0 v w.0 w.1 edge, omega (arith, cost_more a w.0 p.0 v w.1.ends, w.2, number, p.1, same))
        ]

    after_within : (v : ℕ) (w : List ℕ) → IsWalk min_plus a source v w → steps w ≤ k + 1 → e v ≤ cost a w
    after_within v w walk few =
        elim (walk_cases min_plus a source v w walk) as (λ _. e v ≤ cost a w) [
          | inl p ↦
              let none : steps w ≤ k = rw p.1 (omega arith) in
              omega (arith, least v, before.within v w walk none)
          | inr p ↦
              let n : steps w ≡ steps p.0 + 1 = ap steps p.4 ∙ steps_more p.0 p.1 v p.2.ends in
              let c : cost a w ≡ cost a p.0 + at min_plus a p.1 v = ap (cost a) p.4 ∙ cost_more a p.0 p.1 v p.2.ends in
              let u : d p.1 ≤ cost a p.0 = before.within p.1 p.0 p.2 (omega arith) in
              ⊎_elim
              (λ (q : x p.1 ≡ d p.1). omega (arith, least v, c, u, q, round.low p.1 v))
              (λ (q : (x p.1 ≡ infinite) × ((v : ℕ) → d v ≤ d p.1 + at min_plus a p.1 v)). omega (arith, least v, c, u, q.1 v))
              (before.fell p.1)
        ]

    after_fell : (u : ℕ) → (z u ≡ e u) ⊎ ((z u ≡ infinite) × ((v : ℕ) → e v ≤ e u + at min_plus a u v))
    after_fell u =
        elim (cases_lt (y u) (d u)) as (λ _. (z u ≡ e u) ⊎ ((z u ≡ infinite) × ((v : ℕ) → e v ≤ e u + at min_plus a u v))) [
          | inl l ↦ inl (omega (arith, new u l, least u))
          | inr l ↦ inr (
            old u l,
            λ v.
                ⊎_elim
                (λ (q : x u ≡ d u). omega (arith, least v, least u, q, round.low u v))
                (λ (q : (x u ≡ infinite) × ((v : ℕ) → d v ≤ d u + at min_plus a u v)). omega (arith, least v, least u, q.1 v))
                (before.fell u),
          )
        ]

    -- one more round
    pub neared : Nearing a source (k + 1) e z
    neared = record { fits = after_fits; reached = after_reached; within = after_within; fell = after_fell }

  -- d has at each vertex the least cost of all walks to it
  pub record IsNearest (d : ℕ → ℕ) : Type 0 where
    pub fits : (v : ℕ) → d v ≤ infinite
    pub reached : (v : ℕ) → d v ≢ infinite → (walk : List ℕ) × IsWalk min_plus a source v walk × (cost a walk ≡ d v)
    pub least : (v : ℕ) (walk : List ℕ) → IsWalk min_plus a source v walk → d v ≤ cost a walk

  -- if no number can lower another, none is above the cost of a walk
  pub closed : (d : ℕ → ℕ) → ((u v : ℕ) → d v ≤ d u + at min_plus a u v) → (from to : ℕ) (w : List ℕ) → IsWalk min_plus a from to w → d to ≤ d from + cost a w
  closed d h from to [] w = absurd (none-some from w.begins)
  closed d h from to (x ∷ []) w = let e : d to ≡ d from = ap d (sym (same_Some x to w.ends) ∙ same_Some x from w.begins) in omega arith
  closed d h from to (x ∷ y ∷ ys) w =
      let e : d x ≡ d from = ap d (walk_first min_plus a from to x (y ∷ ys) w) in
      omega (arith, e, h x y, cost_front a (y ∷ ys) x y refl, closed d h y to (y ∷ ys) (walk_rest min_plus a from to x y ys w))

  -- nothing fell in the last round
  pub settled : (k : ℕ) (d x : ℕ → ℕ) → Nearing a source k d x → ((v : ℕ) → x v ≡ infinite) → IsNearest d
  settled k d x h none = record {
    fits = h.fits;
    reached = h.reached;
    least = λ v w walk.
        let zero_at : d source ≤ 0 = h.within source (source ∷ []) (walk_here min_plus a source) (omega arith) in
        let step = closed d (λ u v. ⊎_elim (λ (q : x u ≡ d u). omega (arith, none u, h.fits v)) (λ (q : (x u ≡ infinite) × ((v : ℕ) → d v ≤ d u + at min_plus a u v)). q.1 v) (h.fell u)) source v w walk in
        omega arith;
  }

  -- there were as many rounds as vertices
  pub all_rounds : (k n : ℕ) (d x : ℕ → ℕ) → Nearing a source k d x → n ≤ k → source < n → ((i j : ℕ) → at min_plus a i j ≢ min_plus.zero → j < n) → IsNearest d
  all_rounds k n d x h m l edges = record {
    fits = h.fits;
    reached = h.reached;
    least = λ v w walk.
        let p : (us : List ℕ) × IsWalk min_plus a source v us × (steps us < n) × (cost a us ≤ cost a w) = short_walk a n edges source v w l walk in
        omega (arith, p.3, h.within v p.0 p.1 (omega (arith, p.2)));
  }
