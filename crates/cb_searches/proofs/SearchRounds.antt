-- Rounds of a breadth-first search: vertices that get a number, and a round that is made.
use Rattle.std.proofs.Common.{◌≡◌, ◌≢◌, ℕ, ◌+◌, ◌<◌, ◌≤◌, cond, inl, inr, ⊎_elim, List, [], ◌∷◌, ◌++◌, length, length-append, get_or, subst, sym, refl, ap, ◌∙◌, arith}
use Rattle.std.specs.Prelude.{All, Contains, ◌==◌}
use Rattle.std.proofs.lemmas.Bool.{cases_eq, cases_lt, cond-true, cond-false, eq-eqb}
use Rattle.std.proofs.lemmas.List.{get_or_append_left}
use Rattle.std.proofs.Math.Seq.{get_or-append_seam}
use Rattle.std.proofs.lemmas.List.Elements.{All-nil, All-cons, All-append, All-weaker, All-contains, Contains-get_or, Contains-append_left, Contains-append_right}
use Rattle.cb_semirings.specs.Tables.{or_and}
use Rattle.cb_matrix.specs.Sparse.{Sparse, IsMatrix, at}
use Rattle.cb_matrix.specs.Operations.{transposed}
use Rattle.cb_matrix.proofs.Made.{at-matrix_of, at-outside}
use Rattle.cb_dcsc.specs.Columns.{in_column, rows_of}
use Rattle.cb_dcsc.proofs.Lookup.{rows_inside}
use Rattle.cb_searches.specs.declared.numbers.Numbers.{Numbers}
use Rattle.cb_searches.specs.Walks.{infinite}
use Rattle.cb_searches.specs.Numbers.{number_at, AreNumbers}
use Rattle.cb_searches.specs.BreadthFirst.{AreLevelNumbers, HasTurned, IsListedFrom, IsReaching, HaveClaimed, IsNext, IsRoundFrom}
use Rattle.cb_searches.proofs.LevelRounds.{begun, round_made, ended}
use Rattle.cb_searches.proofs.ColumnEdges.{edge_row, row_edge}
use Rattle.cb_searches.proofs.TurnedUnits.{turned_bits}
use Rattle.cb_searches.proofs.TakenNumbers.{ne-eqb}
use Rattle.cb_searches.proofs.WalkCosts.{walk_more, steps_more}

-- ---- vertices that get a number
module _ (x : ℕ) (d : ℕ → ℕ) (q : List ℕ) where
  -- none
  pub claimed_none : HaveClaimed x d q [] d q
  claimed_none = record {
    longer = omega arith;
    kept = λ i l. refl;
    held = λ v. inl refl;
    near = λ i l m. absurd (omega arith);
    all = All-nil (λ v. d v ≢ infinite);
  }

  -- one that has a number
  pub claimed_old : (v : ℕ) → d v ≢ infinite → HaveClaimed x d q (v ∷ []) d q
  claimed_old v some = record {
    longer = omega arith;
    kept = λ i l. refl;
    held = λ w. inl refl;
    near = λ i l m. absurd (omega arith);
    all = All-cons (λ v. d v ≢ infinite) v [] some (All-nil (λ v. d v ≢ infinite));
  }

  module _ (v : ℕ) (e : ℕ → ℕ) (r : List ℕ) (none : d v ≡ infinite) (finite : x < infinite) (set : (w : ℕ) → e w ≡ cond (w == v) x (d w)) (pushed : r ≡ q ++ v ∷ []) where
    claimed_here : e v ≡ x
    claimed_here = set v ∙ cond-true _ _ _ (eq-eqb v v refl)

    long : length r ≡ length q + 1
    long = ap length pushed ∙ length-append q (v ∷ [])

    last_here : get_or r (length q) 0 ≡ v
    last_here = ap (λ (xs : List ℕ). get_or xs (length q) 0) pushed ∙ get_or-append_seam q v [] 0

    -- one that has none
    pub claimed_new : HaveClaimed x d q (v ∷ []) e r
    claimed_new = record {
      longer = omega (arith, long);
      kept = λ i l. ap (λ (xs : List ℕ). get_or xs i 0) pushed ∙ get_or_append_left q (v ∷ []) 0 i l;
      held = λ w. ⊎_elim
          (λ (s : w ≡ v). inr (ap d s ∙ none, ap e s ∙ claimed_here, subst (Contains (v ∷ [])) (sym s) (Contains-get_or (v ∷ []) 0 v (omega arith)), (length q, omega arith, omega (arith, long), last_here ∙ sym s)))
          (λ (n : w ≡ v → ⊥). inl (set w ∙ cond-false _ _ _ (ne-eqb w v n)))
          (cases_eq w v);
      near = λ i l m. let same : i ≡ length q = omega (arith, l, m, long) in ap (λ (j : ℕ). e (get_or r j 0)) same ∙ ap e last_here ∙ claimed_here;
      all = All-cons (λ w. e w ≢ infinite) v [] (λ z. omega (arith, z, claimed_here, finite)) (All-nil (λ w. e w ≢ infinite));
    }

-- a vertex that has a number keeps it
pub claimed_keeps : (x : ℕ) (d : ℕ → ℕ) (q vs : List ℕ) (e : ℕ → ℕ) (r : List ℕ) → HaveClaimed x d q vs e r → (v : ℕ) → d v ≢ infinite → e v ≡ d v
claimed_keeps x d q vs e r h v some = ⊎_elim
    (λ (same : e v ≡ d v). same)
    (λ (new : (d v ≡ infinite) × (e v ≡ x) × Contains vs v × IsListedFrom (length q) r v). absurd (some new.0))
    (h.held v)

-- some vertices, and then others
module _ (x : ℕ) (finite : x < infinite) (d : ℕ → ℕ) (q vs : List ℕ) (e : ℕ → ℕ) (r : List ℕ) (h : HaveClaimed x d q vs e r) (ws : List ℕ) (f : ℕ → ℕ) (s : List ℕ) (k : HaveClaimed x e r ws f s) where
  still : (v : ℕ) → e v ≢ infinite → f v ≡ e v
  still = claimed_keeps x e r ws f s k

  stays_listed : (v : ℕ) → IsListedFrom (length q) r v → IsListedFrom (length q) s v
  stays_listed v there = (there.0, there.1, (let l : there.0 < length r = there.2 in omega (arith, l, k.longer)), k.kept there.0 there.2 ∙ there.3)

  pub claimed_more : HaveClaimed x d q (vs ++ ws) f s
  claimed_more = record {
    longer = omega (arith, h.longer, k.longer);
    kept = λ i l. k.kept i (omega (arith, l, h.longer)) ∙ h.kept i l;
    held = λ v. ⊎_elim
        (λ (same : f v ≡ e v). ⊎_elim
        (λ (before : e v ≡ d v). inl (same ∙ before))
        (λ (new : (d v ≡ infinite) × (e v ≡ x) × Contains vs v × IsListedFrom (length q) r v). inr (new.0, same ∙ new.1, Contains-append_left vs ws v new.2, stays_listed v new.3))
        (h.held v))
        (λ (late : (e v ≡ infinite) × (f v ≡ x) × Contains ws v × IsListedFrom (length r) s v).
        ⊎_elim
        (λ (before : e v ≡ d v). let there = late.3 in let l : length r ≤ there.0 = there.1 in inr (sym before ∙ late.0, late.1, Contains-append_right vs ws v late.2, (there.0, omega (arith, l, h.longer), there.2, there.3)))
        (λ (new : (d v ≡ infinite) × (e v ≡ x) × Contains vs v × IsListedFrom (length q) r v). absurd (omega (arith, late.0, new.1, finite)))
        (h.held v))
        (k.held v);
    near = λ i l m. ⊎_elim
        (λ (early : i < length r).
        let there : e (get_or r i 0) ≡ x = h.near i l early in
        ap f (k.kept i early) ∙ still (get_or r i 0) (λ z. omega (arith, z, there, finite)) ∙ there)
        (λ (late : length r ≤ i). k.near i late m)
        (cases_lt i (length r));
    all = All-append (λ v. f v ≢ infinite) vs ws
        (All-weaker (λ v. e v ≢ infinite) (λ v. f v ≢ infinite) (λ v some z. some (sym (still v some) ∙ z)) vs h.all) k.all;
  }

-- ---- rounds
-- a round that has reached nothing yet
pub round_begun : (a : Sparse) (k : ℕ) (d : ℕ → ℕ) (q : List ℕ) → IsRoundFrom a k d q d q
round_begun a k d q = record { vertices = []; claimed = claimed_none (k + 1) d q; next = All-nil (IsNext a k d) }

-- and one that reaches more
pub round_more : (a : Sparse) (k : ℕ) → k + 1 < infinite → (d : ℕ → ℕ) (q : List ℕ) (e : ℕ → ℕ) (r : List ℕ) → IsRoundFrom a k d q e r → (ws : List ℕ) (f : ℕ → ℕ) (s : List ℕ) → HaveClaimed (k + 1) e r ws f s → All (IsNext a k d) ws → IsRoundFrom a k d q f s
round_more a k few d q e r is ws f s more next = record {
  vertices = is.vertices ++ ws;
  claimed = claimed_more (k + 1) few d q is.vertices e r is.claimed ws f s more;
  next = All-append (IsNext a k d) is.vertices ws is.next next;
}

module _ (a : Sparse) (source k : ℕ) (known : Numbers) (q : List ℕ) (start : ℕ) (is : IsReaching a source k known q start) where
  abbrev d : ℕ → ℕ
  d = number_at known

  -- if the edges from the vertices of level k lead to vertices with numbers, so do all edges from vertices with numbers
  pub pushed_all : (e : ℕ → ℕ) → ((v : ℕ) → d v ≢ infinite → e v ≢ infinite) → ((i : ℕ) → start ≤ i → i < length q → (v : ℕ) → at or_and a (get_or q i 0) v ≢ 0 → e v ≢ infinite) → k < infinite → (u v : ℕ) → at or_and a u v ≢ 0 → d u ≤ k → e v ≢ infinite
  pushed_all e keeps pushed finite u v edge l = ⊎_elim
      (λ (here : d u ≡ k). let there = is.last u here in pushed there.0 there.1 there.2 v (λ z. edge (ap (λ (w : ℕ). at or_and a w v) (sym there.3) ∙ z)))
      (λ (n : d u ≡ k → ⊥).
      let h = is.rounds.levels u (λ z. omega (arith, z, l, finite)) in
      let w = h.1.reached in
      keeps v (is.rounds.within v (w.0 ++ v ∷ []) (walk_more or_and a source u v w.0 w.1 edge) (omega (arith, steps_more w.0 u v w.1.ends, w.2, l, n))))
      (cases_eq (d u) k)

  -- a round is made
  pub reaching_next : k + 1 < infinite → (new : Numbers) (now : List ℕ) → AreNumbers a.shape.rows new → (round : IsRoundFrom a k d q (number_at new) now) → ((u v : ℕ) → at or_and a u v ≢ 0 → d u ≤ k → number_at new v ≢ infinite) → IsReaching a source (k + 1) new now (length q)
  reaching_next few new now numbers round all =
      let e = number_at new in
      let claimed = round.claimed in
      record {
        numbers = numbers;
        within = claimed.longer;
        rounds = round_made a k d few e
            (λ v. ⊎_elim
            (λ (same : e v ≡ d v). inl same)
            (λ (set : (d v ≡ infinite) × (e v ≡ k + 1) × Contains round.vertices v × IsListedFrom (length q) now v). inr (set.0, set.1, All-contains (IsNext a k d) round.vertices v round.next set.2))
            (claimed.held v)) all source is.rounds;
        near = λ i l. ⊎_elim
            (λ (early : i < length q).
            let before : d (get_or q i 0) ≤ k = is.near i early in
            let same : e (get_or q i 0) ≡ d (get_or q i 0) = claimed_keeps (k + 1) d q round.vertices e now claimed (get_or q i 0) (λ z. omega (arith, z, before, few)) in
            omega (arith, ap e (claimed.kept i early), same, before))
            (λ (late : length q ≤ i). omega (arith, claimed.near i late l))
            (cases_lt i (length q));
        last = λ v here. ⊎_elim
            (λ (same : e v ≡ d v). absurd (let h = (is.rounds.levels v (λ z. omega (arith, z, same, here, few))).0 in omega (arith, h, same, here)))
            (λ (set : (d v ≡ infinite) × (e v ≡ k + 1) × Contains round.vertices v × IsListedFrom (length q) now v). set.3)
            (claimed.held v);
      }

  -- if no vertex has level k, the search is at its end
  pub reaching_ended : k + 1 < infinite → length q ≤ start → AreLevelNumbers a source d
  reaching_ended few none =
      ended a source d k is.rounds
      (round_made a k d few d (λ v. inl refl) (pushed_all d (λ v some. some) (λ i l m. absurd (omega (arith, l, m, none))) (omega (arith, few))) source is.rounds)

-- ---- the transposed matrix
module _ (a : Sparse) (is : IsMatrix or_and a) (square : a.shape.rows ≡ a.shape.cols) where
  past : (u v : ℕ) → (u < a.shape.rows → v < a.shape.cols → ⊥) → at or_and (transposed or_and a) v u ≡ at or_and a u v
  past u v h = at-outside 0 (transposed or_and a).shape (transposed or_and a).entries v u (turned_bits a is).inside (λ i j. h j i) ∙ sym (at-outside 0 a.shape a.entries u v is.inside h)

  -- its values
  pub turned_at : (u v : ℕ) → at or_and (transposed or_and a) v u ≡ at or_and a u v
  turned_at u v = ⊎_elim
      (λ (l : u < a.shape.rows). ⊎_elim
      (λ (m : v < a.shape.rows). at-matrix_of or_and (record { rows = a.shape.cols; cols = a.shape.rows }) (λ i j. at or_and a j i) v u (omega (arith, m, square)) l)
      (λ (m : a.shape.rows ≤ v). past u v (λ _ n. omega (arith, m, n, square)))
      (cases_lt v a.shape.rows))
      (λ (l : a.shape.rows ≤ u). past u v (λ n _. omega (arith, l, n)))
      (cases_lt u a.shape.rows)

module _ (turned a : Sparse) (h : HasTurned turned a) (u : ℕ) (rows : List ℕ) (same : rows ≡ rows_of (in_column u turned.entries)) where
  is_turned : IsMatrix or_and turned
  is_turned = subst (IsMatrix or_and) (sym h.is) (turned_bits a h.matrix)

  value : (v : ℕ) → at or_and turned v u ≡ at or_and a u v
  value v = ap (λ (m : Sparse). at or_and m v u) h.is ∙ turned_at a h.matrix h.square u v

  -- the rows of a column of it are where the edges from its vertex lead
  pub target_listed : (v : ℕ) → at or_and a u v ≢ 0 → Contains rows v
  target_listed v edge = subst (λ (xs : List ℕ). Contains xs v) (sym same) (edge_row turned is_turned v u (λ z. edge (sym (value v) ∙ z)))

  pub targets_next : (k : ℕ) (old : ℕ → ℕ) → old u ≤ k → All (IsNext a k old) rows
  targets_next k old near i d l =
      let v = get_or rows i d in
      let there : at or_and turned v u ≢ 0 = row_edge turned is_turned v u (subst (λ (xs : List ℕ). Contains xs v) same (Contains-get_or rows i d l)) in
      (u, λ z. there (value v ∙ z), near)

  pub targets_inside : All (λ v. v < turned.shape.rows) rows
  targets_inside = rows_inside or_and turned u rows is_turned same

-- at first only the source is reached
pub reaching_begun : (a : Sparse) (source : ℕ) (known : Numbers) (q : List ℕ) → AreNumbers a.shape.rows known → number_at known source ≡ 0 → ((v : ℕ) → v ≢ source → number_at known v ≡ infinite) → q ≡ source ∷ [] → IsReaching a source 0 known q 0
reaching_begun a source known q numbers here there queue = record {
  numbers = numbers;
  rounds = begun a source (number_at known) here there;
  within = omega arith;
  near = λ i l. let first : i ≡ 0 = omega (arith, l, ap length queue) in omega (arith, ap (λ (j : ℕ). number_at known (get_or q j 0)) first, ap (λ (xs : List ℕ). number_at known (get_or xs 0 0)) queue, here);
  last = λ v zero_here. ⊎_elim
      (λ (e : v ≡ source). (0, omega arith, omega (arith, ap length queue), ap (λ (xs : List ℕ). get_or xs 0 0) queue ∙ sym e))
      (λ (n : v ≡ source → ⊥). absurd (omega (arith, zero_here, there v n)))
      (cases_eq v source);
}
