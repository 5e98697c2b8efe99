-- The levels up to a number of rounds: at the start, after one more round, and at the end.
use Rattle.std.proofs.Common.{◌≡◌, ◌≢◌, ℕ, zero, suc, ◌+◌, ◌<◌, ◌≤◌, ◌⊎◌, ⊎_elim, List, [], ◌∷◌, ◌++◌, subst, sym, ap, ◌∙◌, arith}
use Rattle.std.proofs.lemmas.Bool.{cases_eq, cases_lt}
use Rattle.cb_semirings.specs.Tables.{or_and}
use Rattle.cb_matrix.specs.Sparse.{Sparse, at}
use Rattle.cb_searches.specs.Walks.{IsWalk, IsLeast, steps, infinite}
use Rattle.cb_searches.specs.BreadthFirst.{AreLevelsWithin, AreLevelNumbers, IsNext}
use Rattle.cb_searches.proofs.WalkCosts.{walk_here, walk_more, walk_cases, steps_more}

-- Numbers in which each is as it was, or is k + 1 if there was none and an edge leads to its vertex from one whose number is
-- at most k.
module _ (a : Sparse) (k : ℕ) (old : ℕ → ℕ) (few : k + 1 < infinite) (new : ℕ → ℕ) (held : (v : ℕ) → (new v ≡ old v) ⊎ ((old v ≡ infinite) × (new v ≡ k + 1) × IsNext a k old v)) (every : (u v : ℕ) → at or_and a u v ≢ 0 → old u ≤ k → new v ≢ infinite) where
  -- if it reaches all to which such edges lead, it is one more round
  pub round_made : (source : ℕ) → AreLevelsWithin a source k old → AreLevelsWithin a source (k + 1) new
  round_made source is =
      let kept = λ (v : ℕ) (some : old v ≢ infinite). λ (z : new v ≡ infinite). ⊎_elim
      (λ (same : new v ≡ old v). some (sym same ∙ z))
      (λ (set : (old v ≡ infinite) × (new v ≡ k + 1) × IsNext a k old v). some set.0)
      (held v) in
      record {
        fits = λ v. ⊎_elim
            (λ (same : new v ≡ old v). omega (arith, same, is.fits v))
            (λ (set : (old v ≡ infinite) × (new v ≡ k + 1) × IsNext a k old v). omega (arith, set.1, few))
            (held v);
        levels = λ v some. ⊎_elim
            (λ (same : new v ≡ old v). let h = is.levels v (λ z. some (same ∙ z)) in (omega (arith, same, h.0), subst (IsLeast or_and a source v steps) (sym same) h.1))
            (λ (set : (old v ≡ infinite) × (new v ≡ k + 1) × IsNext a k old v).
            let next = set.2 in
            let h = is.levels next.0 (λ z. omega (arith, z, next.2, few)) in
            let w = h.1.reached in
            let more : steps (w.0 ++ v ∷ []) ≡ old next.0 + 1 = steps_more w.0 next.0 v w.1.ends ∙ ap (λ (n : ℕ). n + 1) w.2 in
            let walk : IsWalk or_and a source v (w.0 ++ v ∷ []) = walk_more or_and a source next.0 v w.0 w.1 next.1 in
            let long = λ (us : List ℕ) (other : IsWalk or_and a source v us). ⊎_elim (λ (l : steps us < k + 1). absurd (is.within v us other (omega (arith, l)) set.0)) (λ (l : k + 1 ≤ steps us). l) (cases_lt (steps us) (k + 1)) in
            (omega (arith, set.1), record { reached = (w.0 ++ v ∷ [], walk, omega (arith, set.1, more, next.2, long (w.0 ++ v ∷ []) walk)); least = λ us other. omega (arith, set.1, long us other) }))
            (held v);
        within = λ v w walk short. ⊎_elim
            (λ (here : (source ≡ v) × (w ≡ v ∷ [])). kept v (is.within v w walk (omega (arith, ap steps here.1))))
            (λ (last : (us : List ℕ) × (u : ℕ) × IsWalk or_and a source u us × (at or_and a u v ≢ or_and.zero) × (w ≡ us ++ v ∷ [])).
            let long : steps w ≡ steps last.0 + 1 = ap steps last.4 ∙ steps_more last.0 last.1 v last.2.ends in
            let h = is.levels last.1 (is.within last.1 last.0 last.2 (omega (arith, long, short))) in
            every last.1 v last.3 h.0)
            (walk_cases or_and a source v w walk);
      }

module _ (a : Sparse) (source : ℕ) (d : ℕ → ℕ) where
  -- at first only the source has a number
  pub begun : d source ≡ 0 → ((v : ℕ) → v ≢ source → d v ≡ infinite) → AreLevelsWithin a source 0 d
  begun here there = record {
    fits = λ v. ⊎_elim (λ (e : v ≡ source). omega (arith, ap d e, here)) (λ (n : v ≢ source). omega (arith, there v n)) (cases_eq v source);
    levels = λ v some. ⊎_elim
        (λ (e : v ≡ source). let own : d v ≡ 0 = ap d e ∙ here in (omega (arith, own), record { reached = (v ∷ [], subst (λ (u : ℕ). IsWalk or_and a u v (v ∷ [])) e (walk_here or_and a v), sym own); least = λ us _. omega (arith, own) }))
        (λ (n : v ≢ source). absurd (some (there v n)))
        (cases_eq v source);
    within = λ v w walk none z. ⊎_elim
        (λ (own : (source ≡ v) × (w ≡ v ∷ [])). omega (arith, ap d own.0, here, z))
        (λ (last : (us : List ℕ) × (u : ℕ) × IsWalk or_and a source u us × (at or_and a u v ≢ or_and.zero) × (w ≡ us ++ v ∷ [])). omega (arith, none, ap steps last.4, steps_more last.0 last.1 v last.2.ends))
        (walk_cases or_and a source v w walk);
  }

  module _ (k : ℕ) (before : AreLevelsWithin a source k d) (after : AreLevelsWithin a source (k + 1) d) where
    -- a vertex to which a walk leads has a number
    has_number : (n v : ℕ) (w : List ℕ) → IsWalk or_and a source v w → steps w ≤ n → d v ≢ infinite
    has_number zero v w walk l = before.within v w walk (omega (arith, l))
    has_number (suc n) v w walk l = ⊎_elim
        (λ (own : (source ≡ v) × (w ≡ v ∷ [])). before.within v w walk (omega (arith, ap steps own.1)))
        (λ (last : (us : List ℕ) × (u : ℕ) × IsWalk or_and a source u us × (at or_and a u v ≢ or_and.zero) × (w ≡ us ++ v ∷ [])).
        let long : steps w ≡ steps last.0 + 1 = ap steps last.4 ∙ steps_more last.0 last.1 v last.2.ends in
        let near = before.levels last.1 (has_number n last.1 last.0 last.2 (omega (arith, long, l))) in
        let us = near.1.reached in
        after.within v (us.0 ++ v ∷ []) (walk_more or_and a source last.1 v us.0 us.1 last.3) (omega (arith, steps_more us.0 last.1 v us.1.ends, us.2, near.0)))
        (walk_cases or_and a source v w walk)

    -- a round that sets no number was the last
    pub ended : AreLevelNumbers a source d
    ended = record {
      fits = before.fits;
      levels = λ v some. (before.levels v some).1;
      none = λ v z w walk. has_number (steps w) v w walk (omega arith) z;
    }
