-- Who has a parent: each vertex that is reached from the source by at least one step, and not the source.
use Rattle.std.proofs.Common.{◌≡◌, ◌≢◌, ℕ, ◌+◌, ◌≤◌, ⊎_elim, List, [], ◌∷◌, ◌++◌, ap, ◌∙◌, sym, arith}
use Rattle.cb_semirings.specs.Tables.{or_and}
use Rattle.cb_matrix.specs.Sparse.{Sparse, at}
use Rattle.cb_searches.specs.Walks.{IsWalk, IsLeast, steps}
use Rattle.cb_searches.specs.Parents.{IsParent}
use Rattle.cb_searches.proofs.WalkCosts.{walk_here, walk_more, walk_cases, steps_more}

module _ (a : Sparse) (source : ℕ) where
  -- the source has none
  pub source_has_none : (u : ℕ) → ¬ IsParent a source u source
  source_has_none u p = let h : p.level + 1 ≤ steps (source ∷ []) = p.far.least (source ∷ []) (walk_here or_and a source) in omega arith

  -- a vertex that is reached farther off has one
  pub reached_has_parent : (v n : ℕ) → IsLeast or_and a source v steps (n + 1) → (u : ℕ) × IsParent a source u v
  reached_has_parent v n far =
      let w = far.reached in
      ⊎_elim
      (λ (here : (source ≡ v) × (w.0 ≡ v ∷ [])). absurd (omega (arith, ap steps here.1, w.2)))
      (λ (last : (us : List ℕ) × (u : ℕ) × IsWalk or_and a source u us × (at or_and a u v ≢ or_and.zero) × (w.0 ≡ us ++ v ∷ [])).
      let us = last.0 in
      let u = last.1 in
      let long : steps us + 1 ≡ n + 1 = sym (steps_more us u v last.2.ends) ∙ sym (ap steps last.4) ∙ w.2 in (
        u,
        record {
          edge = last.3;
          level = n;
          near = record {
            reached = (us, last.2, omega (arith, long));
            least = λ k walk. omega (arith, far.least (k ++ v ∷ []) (walk_more or_and a source u v k walk last.3), steps_more k u v walk.ends);
          };
          far = far;
        },
      ))
      (walk_cases or_and a source v w.0 w.1)
