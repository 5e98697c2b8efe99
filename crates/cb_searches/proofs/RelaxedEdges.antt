-- The edges from one vertex, relaxed one after another.
use Rattle.std.proofs.Common.{◌≡◌, ◌≢◌, ℕ, suc, ◌+◌, ◌<◌, ◌≤◌, cond, ◌⊎◌, inl, inr, ⊎_elim, List, [], ◌∷◌, ◌++◌, length, get_or, subst, sym, refl, ap, ◌∙◌, arith}
use Rattle.std.specs.Prelude.{min, AllPairs, Contains, ◌==◌}
use Rattle.std.proofs.lemmas.Bool.{cases_eq, cases_lt, cond-true, cond-false, eq-eqb}
use Rattle.std.proofs.lemmas.Map.Made.{Contains-tail}
use Rattle.cb_semirings.specs.Tables.{min_plus}
use Rattle.cb_matrix.specs.Sparse.{Sparse, at}
use Rattle.cb_dcsc.specs.Columns.{in_column, rows_of, values_of, row_value}
use Rattle.cb_dcsc.proofs.Lookup.{row_value-found, column_value}
use Rattle.cb_searches.specs.declared.dijkstra.Tentative.{Tentative}
use Rattle.cb_searches.specs.Walks.{IsWalk, cost, infinite}
use Rattle.cb_searches.specs.Settling.{AreEdges, IsWaiting, IsRelaxed, IsSettling}
use Rattle.cb_searches.proofs.WalkCosts.{walk_more, cost_more}
use Rattle.cb_searches.proofs.TakenNumbers.{ne-eqb}

-- the edges from a vertex, by the rows and values of its column
pub edges_are : (edges a : Sparse) → AreEdges edges a → (u : ℕ) (rows values : List ℕ) → rows ≡ rows_of (in_column u edges.entries) → values ≡ values_of (in_column u edges.entries) → (v : ℕ) → row_value infinite rows values v ≡ at min_plus a u v
edges_are edges a same u rows values p q v = (λ t. row_value infinite (p t) (q t) v) ∙ column_value infinite edges.entries v u ∙ same u v

-- What d is while the edges from a vertex are relaxed: as for all vertices that settle, but the vertex itself needs
-- only to be unable to lower the first n that its edges lead to.
pub record IsRelaxing (a : Sparse) (f d : ℕ → ℕ) (waiting : List Tentative) (from : Tentative) (rows values : List ℕ) (n : ℕ) : Type 0 where
  pub fits : (v : ℕ) → d v ≤ infinite
  pub begins : (v : ℕ) → d v ≤ f v
  pub reached : (v : ℕ) → d v ≢ infinite → (u : ℕ) × (walk : List ℕ) × IsWalk min_plus a u v walk × (f u + cost a walk ≡ d v)
  pub number : d from.vertex ≡ from.number
  pub others : (u : ℕ) → u ≢ from.vertex → IsWaiting d waiting u ⊎ IsRelaxed a d u
  pub passed : (k : ℕ) → k < n → d (get_or rows k 0) ≤ from.number + get_or values k 0

module _ (a : Sparse) (f : ℕ → ℕ) (waiting : List Tentative) (from : Tentative) (rows values : List ℕ) where
  -- at first only the vertex itself is taken out
  pub relaxing_begun : (d : ℕ → ℕ) → d from.vertex ≡ from.number → IsSettling a f d (from ∷ waiting) → IsRelaxing a f d waiting from rows values 0
  relaxing_begun d number is = record {
    fits = is.fits;
    begins = is.begins;
    reached = is.reached;
    number = number;
    others = λ u other. ⊎_elim
        (λ (w : IsWaiting d (from ∷ waiting) u). inl (Contains-tail from waiting (record { number = d u; vertex = u }) (λ e. other (sym (ap (λ (t : Tentative). t.vertex) e))) w))
        (λ (r : IsRelaxed a d u). inr r)
        (is.settled u);
    passed = λ k l. absurd (omega arith);
  }

  module _ (same : length values ≡ length rows) (edge : (v : ℕ) → row_value infinite rows values v ≡ at min_plus a from.vertex v) where
    -- once no edge to a listed row can lower, none to any can
    low_edges : (d : ℕ → ℕ) (x : ℕ) (rs vs : List ℕ) → length vs ≡ length rs → ((v : ℕ) → d v ≤ infinite) → ((k : ℕ) → k < length rs → d (get_or rs k 0) ≤ x + get_or vs k 0) → (v : ℕ) → d v ≤ x + row_value infinite rs vs v
    unfolding row_value
    low_edges d x [] vs l fits low v = omega (arith, fits v)
    low_edges d x (r ∷ rs) [] l fits low v = absurd (omega arith)
    low_edges d x (r ∷ rs) (w ∷ vs) l fits low v =
        ⊎_elim
        (λ (e : r ≡ v). let h : d r ≤ x + w = low 0 (omega arith) in let m : d v ≤ x + w = subst (λ (u : ℕ). d u ≤ x + w) e h in rw (cond-true (r == v) w (row_value infinite rs vs v) (eq-eqb r v e)) m)
        (λ (n : r ≡ v → ⊥). let m = low_edges d x rs vs (omega arith) fits (λ k b. low (suc k) (omega arith)) v in rw (cond-false (r == v) w (row_value infinite rs vs v) (ne-eqb r v n)) m)
        (cases_eq r v)

    -- in the end all edges are relaxed
    pub relaxing_done : (d : ℕ → ℕ) (n : ℕ) → length rows ≤ n → IsRelaxing a f d waiting from rows values n → IsSettling a f d waiting
    relaxing_done d n l is = record {
      fits = is.fits;
      begins = is.begins;
      reached = is.reached;
      settled = λ u. ⊎_elim
          (λ (e : u ≡ from.vertex). inr (λ v.
          let low : d v ≤ from.number + row_value infinite rows values v = low_edges d from.number rows values same is.fits (λ k b. is.passed k (omega arith)) v in
          let here : d u ≡ from.number = ap d e ∙ is.number in
          let value : at min_plus a u v ≡ row_value infinite rows values v = ap (λ (w : ℕ). at min_plus a w v) e ∙ sym (edge v) in
          omega (arith, low, here, value)))
          (λ (n : u ≡ from.vertex → ⊥). is.others u n)
          (cases_eq u from.vertex);
    }

    module _ (ascending : AllPairs (λ i j. i < j) rows) (n : ℕ) (inside : n < length rows) (d e : ℕ → ℕ) (next : List Tentative) (to : Tentative) (number : to.number ≡ min (from.number + get_or values n 0) infinite) (vertex : to.vertex ≡ get_or rows n 0)
        (least : (v : ℕ) → e v ≡ cond (v == to.vertex) (min (d v) to.number) (d v)) (stays : (t : Tentative) → Contains waiting t → Contains next t) (waits : to.number < d to.vertex → Contains next to) (is : IsRelaxing a f d waiting from rows values n) where
      here : e to.vertex ≡ min (d to.vertex) to.number
      here = least to.vertex ∙ cond-true _ _ _ (eq-eqb to.vertex to.vertex refl)

      there : (v : ℕ) → v ≢ to.vertex → e v ≡ d v
      there v n = least v ∙ cond-false _ _ _ (ne-eqb v to.vertex n)

      -- no number rises
      falls : (v : ℕ) → e v ≤ d v
      falls v = ⊎_elim
          (λ (q : v ≡ to.vertex). let h : e v ≡ min (d v) to.number = subst (λ (u : ℕ). e u ≡ min (d u) to.number) (sym q) here in omega (arith, h))
          (λ (n : v ≡ to.vertex → ⊥). let h = there v n in omega (arith, h))
          (cases_eq v to.vertex)

      -- the edge's weight
      weight_is : at min_plus a from.vertex to.vertex ≡ get_or values n 0
      weight_is = sym (edge to.vertex) ∙ row_value-found infinite rows values n to.vertex same ascending inside (sym vertex)

      -- a walk to the vertex goes on by the edge
      more : to.number < infinite → (u : ℕ) × (walk : List ℕ) × IsWalk min_plus a u to.vertex walk × (f u + cost a walk ≡ to.number)
      more l =
          let from_is : d from.vertex ≡ from.number = is.number in
          let w : (u : ℕ) × (walk : List ℕ) × IsWalk min_plus a u from.vertex walk × (f u + cost a walk ≡ d from.vertex) = is.reached from.vertex (λ i. omega (arith, i, from_is, number, l)) in
          let stored : at min_plus a from.vertex to.vertex ≢ min_plus.zero = λ i. omega (arith, i, weight_is, number, l) in
          (w.0, w.1 ++ to.vertex ∷ [], walk_more min_plus a w.0 from.vertex to.vertex w.1 w.2 stored, omega (arith, cost_more a w.1 from.vertex to.vertex w.2.ends, w.3, from_is, weight_is, number, l))

      step_reached : (v : ℕ) → e v ≢ infinite → (u : ℕ) × (walk : List ℕ) × IsWalk min_plus a u v walk × (f u + cost a walk ≡ e v)
      step_reached v i =
          ⊎_elim
          (λ (q : v ≡ to.vertex).
          subst (λ (x : ℕ). (u : ℕ) × (walk : List ℕ) × IsWalk min_plus a u x walk × (f u + cost a walk ≡ e x)) (sym q)
          (⊎_elim
          (λ (l : to.number < d to.vertex).
          let w = more (let fit = is.fits to.vertex in omega (arith, fit, l)) in
          (w.0, w.1, w.2, omega (arith, w.3, here, l)))
          (λ (l : d to.vertex ≤ to.number).
          let same : e to.vertex ≡ d to.vertex = omega (arith, here, l) in
          let w = is.reached to.vertex (λ j. i (ap e q ∙ same ∙ j)) in
          (w.0, w.1, w.2, omega (arith, w.3, same)))
          (cases_lt to.number (d to.vertex))))
          (λ (n : v ≡ to.vertex → ⊥).
          let same : e v ≡ d v = there v n in
          let w = is.reached v (λ j. i (same ∙ j)) in
          (w.0, w.1, w.2, w.3 ∙ sym same))
          (cases_eq v to.vertex)

      -- what no edge from a vertex could lower, it can't now
      still : (u : ℕ) → e u ≡ d u → IsRelaxed a d u → IsRelaxed a e u
      still u same r v = let h = r v in let low = falls v in omega (arith, h, low, same)

      waiting_still : (u : ℕ) → e u ≡ d u → IsWaiting d waiting u → IsWaiting e next u
      waiting_still u same w = subst (λ (x : ℕ). Contains next (record { number = x; vertex = u })) (sym same) (stays (record { number = d u; vertex = u }) w)

      unchanged : (u : ℕ) → e u ≡ d u → IsWaiting d waiting u ⊎ IsRelaxed a d u → IsWaiting e next u ⊎ IsRelaxed a e u
      unchanged u same h = ⊎_elim (λ (w : IsWaiting d waiting u). inl (waiting_still u same w)) (λ (r : IsRelaxed a d u). inr (still u same r)) h

      step_others : (u : ℕ) → u ≢ from.vertex → IsWaiting e next u ⊎ IsRelaxed a e u
      step_others u other =
          ⊎_elim
          (λ (q : u ≡ to.vertex).
          ⊎_elim
          (λ (l : to.number < d to.vertex).
          let now : e u ≡ to.number = ap e q ∙ omega (arith, here, l) in
          inl (subst (λ (t : Tentative). Contains next t) (λ i. record { number = sym now i; vertex = sym q i }) (waits l)))
          (λ (l : d to.vertex ≤ to.number).
          let same : e to.vertex ≡ d to.vertex = omega (arith, here, l) in
          unchanged u (ap e q ∙ same ∙ ap d (sym q)) (is.others u other))
          (cases_lt to.number (d to.vertex)))
          (λ (n : u ≡ to.vertex → ⊥). unchanged u (there u n) (is.others u other))
          (cases_eq u to.vertex)

      step_passed : (k : ℕ) → k < n + 1 → e (get_or rows k 0) ≤ from.number + get_or values k 0
      step_passed k l =
          ⊎_elim
          (λ (b : k < n). let h = is.passed k b in let low = falls (get_or rows k 0) in omega (arith, h, low))
          (λ (b : n ≤ k).
          let same : k ≡ n = omega arith in
          let low : e to.vertex ≤ from.number + get_or values n 0 = omega (arith, here, number) in
          subst (λ (m : ℕ). e (get_or rows m 0) ≤ from.number + get_or values m 0) (sym same) (subst (λ (m : ℕ). e m ≤ from.number + get_or values n 0) vertex low))
          (cases_lt k n)

      -- one more edge
      pub relaxing_step : IsRelaxing a f e next from rows values (n + 1)
      relaxing_step = record {
        fits = λ v. let low = falls v in let h = is.fits v in omega (arith, low, h);
        begins = λ v. let low = falls v in let h = is.begins v in omega (arith, low, h);
        reached = step_reached;
        number = ⊎_elim
            (λ (q : from.vertex ≡ to.vertex). let h : e from.vertex ≡ min (d from.vertex) to.number = subst (λ (u : ℕ). e u ≡ min (d u) to.number) (sym q) here in let fit = is.fits from.vertex in let m = is.number in omega (arith, h, fit, m, number))
            (λ (n : from.vertex ≡ to.vertex → ⊥). there from.vertex n ∙ is.number)
            (cases_eq from.vertex to.vertex);
        others = step_others;
        passed = step_passed;
      }
