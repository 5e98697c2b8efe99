-- Walks: how they begin, grow and end, and what they cost.
use Rattle.std.proofs.Common.{◌≡◌, ◌≢◌, ℕ, ◌+◌, ◌⊎◌, inl, inr, List, [], ◌∷◌, ◌++◌, length, length-append, subst, sym, refl, ap, ◌∙◌, arith}
use Rattle.std.specs.Prelude.{Some}
use Rattle.std.specs.List.{sum_by}
use Rattle.std.proofs.lemmas.List.Sums.{sum-map, sum_by_push, sum_by-cons}
use Rattle.std.proofs.lemmas.List.Elements.{All-head, All-tail, All-cons, All-push, All-nil}
use Rattle.std.proofs.lemmas.Option.{none-some, same_Some}
use Rattle.cb_semirings.specs.Arithmetic.{Arithmetic}
use Rattle.cb_semirings.specs.Tables.{min_plus}
use Rattle.cb_matrix.specs.Sparse.{Sparse, at}
use Rattle.cb_searches.specs.Walks.{pairs, first, last, IsWalk, steps, cost}

-- the value of a pair
abbrev pub pair_cost : Sparse → ℕ × ℕ → ℕ
pair_cost a p = at min_plus a p.0 p.1

cost_by : (a : Sparse) (walk : List ℕ) → cost a walk ≡ sum_by (pair_cost a) (pairs walk)
cost_by a walk = sum-map (pair_cost a) (pairs walk)

-- one more vertex at the end
pub pairs_more : (us : List ℕ) (u v : ℕ) → last us ≡ Some u → pairs (us ++ v ∷ []) ≡ pairs us ++ (u, v) ∷ []
pairs_more [] u v h = absurd (none-some u h)
pairs_more (x ∷ []) u v h = ap (λ (y : ℕ). (y, v) ∷ []) (same_Some x u h)
pairs_more (x ∷ y ∷ ys) u v h = ap (λ ps. (x, y) ∷ ps) (pairs_more (y ∷ ys) u v h)

first_more : (us : List ℕ) (s v : ℕ) → first us ≡ Some s → first (us ++ v ∷ []) ≡ Some s
first_more [] s v h = absurd (none-some s h)
first_more (x ∷ xs) s v h = h

last_more : (us : List ℕ) (v : ℕ) → last (us ++ v ∷ []) ≡ Some v
last_more [] v = refl
last_more (x ∷ []) v = refl
last_more (x ∷ y ∷ ys) v = last_more (y ∷ ys) v

-- one more vertex at the front
pub pairs_front : (us : List ℕ) (x y : ℕ) → first us ≡ Some y → pairs (x ∷ us) ≡ (x, y) ∷ pairs us
pairs_front [] x y h = absurd (none-some y h)
pairs_front (u ∷ us) x y h = ap (λ (z : ℕ). (x, z) ∷ pairs (u ∷ us)) (same_Some u y h)

last_front : (us : List ℕ) (x v : ℕ) → last us ≡ Some v → last (x ∷ us) ≡ Some v
last_front [] x v h = absurd (none-some v h)
last_front (u ∷ us) x v h = h

module _ (s : Arithmetic) (a : Sparse) where
  -- a vertex alone is a walk from it to itself
  pub walk_here : (v : ℕ) → IsWalk s a v v (v ∷ [])
  walk_here v = record { begins = refl; ends = refl; stored = All-nil (λ (p : ℕ × ℕ). at s a p.0 p.1 ≢ s.zero) }

  -- a walk goes on to a vertex to which its last one has an edge
  pub walk_more : (from u v : ℕ) (us : List ℕ) → IsWalk s a from u us → at s a u v ≢ s.zero → IsWalk s a from v (us ++ v ∷ [])
  walk_more from u v us w e = record {
    begins = first_more us from v w.begins;
    ends = last_more us v;
    stored = rw (pairs_more us u v w.ends) (All-push (λ (p : ℕ × ℕ). at s a p.0 p.1 ≢ s.zero) (pairs us) (u, v) w.stored e);
  }

  -- a walk may begin one edge earlier
  pub walk_front : (x y v : ℕ) (us : List ℕ) → at s a x y ≢ s.zero → IsWalk s a y v us → IsWalk s a x v (x ∷ us)
  walk_front x y v us e w = record {
    begins = refl;
    ends = last_front us x v w.ends;
    stored = rw (pairs_front us x y w.begins) (All-cons (λ (p : ℕ × ℕ). at s a p.0 p.1 ≢ s.zero) (x, y) (pairs us) e w.stored);
  }

  -- the first pair, and the walk after it
  pub walk_edge : (from v x y : ℕ) (us : List ℕ) → IsWalk s a from v (x ∷ y ∷ us) → at s a x y ≢ s.zero
  walk_edge from v x y us w = All-head (λ (p : ℕ × ℕ). at s a p.0 p.1 ≢ s.zero) (x, y) (pairs (y ∷ us)) w.stored

  -- without its first vertex it is a walk from the second
  pub walk_rest : (from v x y : ℕ) (us : List ℕ) → IsWalk s a from v (x ∷ y ∷ us) → IsWalk s a y v (y ∷ us)
  walk_rest from v x y us w = record {
    begins = refl;
    ends = w.ends;
    stored = All-tail (λ (p : ℕ × ℕ). at s a p.0 p.1 ≢ s.zero) (x, y) (pairs (y ∷ us)) w.stored;
  }

  -- a walk's first vertex is the one that it is from
  pub walk_first : (from v x : ℕ) (us : List ℕ) → IsWalk s a from v (x ∷ us) → x ≡ from
  walk_first from v x us w = same_Some x from w.begins

  -- a walk is its only vertex, or a walk and one more vertex
  abbrev pub WalkCases : ℕ → ℕ → List ℕ → Type 0
  WalkCases from v w = ((from ≡ v) × (w ≡ v ∷ [])) ⊎ ((us : List ℕ) × (u : ℕ) × IsWalk s a from u us × (at s a u v ≢ s.zero) × (w ≡ us ++ v ∷ []))

  -- each walk is one or the other
  pub walk_cases : (from v : ℕ) (w : List ℕ) → IsWalk s a from v w → WalkCases from v w
  walk_cases from v [] w = absurd (none-some from w.begins)
  walk_cases from v (x ∷ []) w = inl (sym (same_Some x from w.begins) ∙ same_Some x v w.ends, ap (λ (y : ℕ). y ∷ []) (same_Some x v w.ends))
  walk_cases from v (x ∷ y ∷ ys) w =
      let e : at s a x y ≢ s.zero = walk_edge from v x y ys w in
      let is : x ≡ from = walk_first from v x (y ∷ ys) w in
      elim (walk_cases y v (y ∷ ys) (walk_rest from v x y ys w)) as (λ _. WalkCases from v (x ∷ y ∷ ys)) [
        | inl p ↦ inr (x ∷ [], x, subst (λ (z : ℕ). IsWalk s a z x (x ∷ [])) is (walk_here x), subst (λ (z : ℕ). at s a x z ≢ s.zero) p.0 e, ap (λ (zs : List ℕ). x ∷ zs) p.1)
        | inr p ↦ inr (x ∷ p.0, p.1, subst (λ (z : ℕ). IsWalk s a z p.1 (x ∷ p.0)) is (walk_front x y p.1 p.0 e p.2), p.3, ap (λ (zs : List ℕ). x ∷ zs) p.4)
      ]

-- one more vertex at the end adds the cost of the edge to it
pub cost_more : (a : Sparse) (us : List ℕ) (u v : ℕ) → last us ≡ Some u → cost a (us ++ v ∷ []) ≡ cost a us + at min_plus a u v
cost_more a us u v h = cost_by a (us ++ v ∷ []) ∙ ap (sum_by (pair_cost a)) (pairs_more us u v h) ∙ sum_by_push (pair_cost a) (pairs us) (u, v) ∙ ap (λ (n : ℕ). n + at min_plus a u v) (sym (cost_by a us))

-- one more vertex at the front adds the cost of the edge from it
pub cost_front : (a : Sparse) (us : List ℕ) (x y : ℕ) → first us ≡ Some y → cost a (x ∷ us) ≡ at min_plus a x y + cost a us
cost_front a us x y h = cost_by a (x ∷ us) ∙ ap (sum_by (pair_cost a)) (pairs_front us x y h) ∙ sum_by-cons (pair_cost a) (x, y) (pairs us) ∙ ap (λ (n : ℕ). at min_plus a x y + n) (sym (cost_by a us))

-- one more vertex at the end is one more step
pub steps_more : (us : List ℕ) (u v : ℕ) → last us ≡ Some u → steps (us ++ v ∷ []) ≡ steps us + 1
steps_more us u v h = ap length (pairs_more us u v h) ∙ length-append (pairs us) ((u, v) ∷ [])

-- one pair fewer than vertices
pub steps_length : (us : List ℕ) (u : ℕ) → last us ≡ Some u → steps us + 1 ≡ length us
steps_length [] u h = absurd (none-some u h)
steps_length (x ∷ []) u h = refl
steps_length (x ∷ y ∷ ys) u h = let r = steps_length (y ∷ ys) u h in omega arith
