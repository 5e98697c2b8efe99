-- Vertices that settle: how they begin, which ones wait, and what holds once none waits.
use Rattle.std.proofs.Common.{◌≡◌, ◌≢◌, ℕ, zero, suc, ◌+◌, ◌<◌, ◌≤◌, Bool, true, false, cond, ◌⊎◌, inl, inr, ⊎_elim, List, [], ◌∷◌, length, map, take, get_or, subst, sym, refl, ap, ◌∙◌, arith}
use Rattle.std.specs.Prelude.{All, Contains, ◌==◌}
use Rattle.std.specs.List.{sum_by, range_with_len}
use Rattle.std.specs.List.Sorted.{IsPermutation}
use Rattle.std.proofs.lemmas.Bool.{cases_eq, cases_lt, cond-true, cond-false, eq-eqb}
use Rattle.std.proofs.lemmas.List.{take_all}
use Rattle.std.proofs.lemmas.List.Sums.{sum_by-cons}
use Rattle.std.proofs.lemmas.List.Sorted.{Contains-permutation}
use Rattle.std.proofs.lemmas.List.Elements.{All-map, All-more, All-weaker, All-contains, Contains-append_right, Contains-get_or}
use Rattle.std.proofs.lemmas.Map.Made.{Contains-tail}
use Rattle.cb_semirings.specs.Tables.{min_plus}
use Rattle.cb_semirings.specs.Laws.{min_plus_is_semiring}
use Rattle.cb_matrix.specs.declared.Entry.{Entry}
use Rattle.cb_matrix.specs.Sparse.{Sparse, IsMatrix, at, value_at, is_at}
use Rattle.cb_matrix.specs.Values.{empty_matrix}
use Rattle.cb_matrix.specs.Operations.{transposed}
use Rattle.cb_matrix.proofs.Made.{at-matrix_of, at-outside, IsMatrix-matrix_of}
use Rattle.cb_matrix.proofs.Places.{is_at-parts}
use Rattle.cb_matrix.proofs.Totals.{value_at-value}
use Rattle.cb_searches.specs.declared.dijkstra.Tentative.{Tentative}
use Rattle.cb_searches.specs.declared.numbers.Numbers.{Numbers}
use Rattle.cb_searches.specs.declared.searches.Search.{Search}
use Rattle.cb_searches.specs.Walks.{infinite, IsWalk, cost}
use Rattle.cb_searches.specs.Numbers.{number_at, AreNumbers}
use Rattle.cb_searches.specs.Searches.{Nearing, IsSearch, IsWholeSearch}
use Rattle.cb_searches.specs.Settling.{AreEdges, IsWaiting, IsRelaxed, IsSettling, first_at, tentative, work_left}
use Rattle.cb_searches.proofs.WalkCosts.{walk_here}
use Rattle.cb_searches.proofs.NumbersByRound.{closed}
use Rattle.cb_searches.proofs.TakenNumbers.{ne-eqb}

-- the entries of the turned matrix are the edges of the graph
pub edges_turned : (a : Sparse) → IsMatrix min_plus a → AreEdges (transposed min_plus a) a
edges_turned a is u v =
    let stops = λ (i j : ℕ). value_at-value min_plus min_plus_is_semiring a.entries i j is.values in
    ⊎_elim
    (λ (l : u < a.shape.rows).
    ⊎_elim
    (λ (m : v < a.shape.cols). at-matrix_of min_plus (record { rows = a.shape.cols; cols = a.shape.rows }) (λ i j. at min_plus a j i) v u m l)
    (λ (m : a.shape.cols ≤ v).
    at-outside infinite (record { rows = a.shape.cols; cols = a.shape.rows }) (transposed min_plus a).entries v u (IsMatrix-matrix_of min_plus (record { rows = a.shape.cols; cols = a.shape.rows }) (λ i j. at min_plus a j i) (λ i j _ _. stops j i)).inside (λ k _. omega arith)
    ∙ sym (at-outside infinite a.shape a.entries u v is.inside (λ _ k. omega arith)))
    (cases_lt v a.shape.cols))
    (λ (l : a.shape.rows ≤ u).
    at-outside infinite (record { rows = a.shape.cols; cols = a.shape.rows }) (transposed min_plus a).entries v u (IsMatrix-matrix_of min_plus (record { rows = a.shape.cols; cols = a.shape.rows }) (λ i j. at min_plus a j i) (λ i j _ _. stops j i)).inside (λ _ k. omega arith)
    ∙ sym (at-outside infinite a.shape a.entries u v is.inside (λ k _. omega arith)))
    (cases_lt u a.shape.rows)

-- ---- what waits
module _ (a : Sparse) (f d : ℕ → ℕ) where
  -- more may wait
  pub settling_more : (xs ys : List Tentative) → ((t : Tentative) → Contains xs t → Contains ys t) → IsSettling a f d xs → IsSettling a f d ys
  settling_more xs ys more is = record {
    fits = is.fits;
    begins = is.begins;
    reached = is.reached;
    settled = λ u. ⊎_elim (λ (w : IsWaiting d xs u). inl (more (record { number = d u; vertex = u }) w)) (λ (r : IsRelaxed a d u). inr r) (is.settled u);
  }

  -- they may wait in another order
  pub settling_moved : (xs ys : List Tentative) → IsPermutation xs ys → IsSettling a f d xs → IsSettling a f d ys
  settling_moved xs ys moved = settling_more xs ys (λ t. Contains-permutation xs ys t moved)

  -- what waits with a number that its vertex no longer has is passed over
  pub passed_over : (xs ys : List Tentative) (x : Tentative) → IsPermutation xs (x ∷ ys) → (x.number ≡ d x.vertex → ⊥) → IsSettling a f d xs → IsSettling a f d ys
  passed_over xs ys x moved stale h =
      let is = settling_moved xs (x ∷ ys) moved h in
      record {
        fits = is.fits;
        begins = is.begins;
        reached = is.reached;
        settled = λ u. ⊎_elim
            (λ (w : IsWaiting d (x ∷ ys) u). inl (Contains-tail x ys (record { number = d u; vertex = u }) (λ e. stale (ap (λ (t : Tentative). t.number) e ∙ ap d (sym (ap (λ (t : Tentative). t.vertex) e)))) w))
            (λ (r : IsRelaxed a d u). inr r)
            (is.settled u);
      }

-- if none waits, no number can lower another
pub all_relaxed : (a : Sparse) (f d : ℕ → ℕ) → IsSettling a f d [] → (u v : ℕ) → d v ≤ d u + at min_plus a u v
all_relaxed a f d is u v = ⊎_elim (λ (w : IsWaiting d [] u). absurd (omega (arith, w.1))) (λ (r : IsRelaxed a d u). r v) (is.settled u)

-- if each of some entries is in a list, so is what they stand for
pub all_wait : (es : List Entry) (ts : List Tentative) → All (λ e. Contains ts (tentative e)) es → (t : Tentative) → Contains (map tentative es) t → Contains ts t
all_wait es ts all t h = All-contains (λ t. Contains ts t) (map tentative es) t (All-map (λ t. Contains ts t) tentative es all) h

-- one more entry waits
pub one_more_waits : (es : List Entry) (i : ℕ) (d : Entry) (xs ys : List Tentative) → i < length es → IsPermutation (tentative (get_or es i d) ∷ xs) ys → All (λ e. Contains xs (tentative e)) (take i es) → All (λ e. Contains ys (tentative e)) (take (i + 1) es)
one_more_waits es i d xs ys l moved all =
    let first = tentative (get_or es i d) in
    let before = λ (t : Tentative) (h : Contains xs t). Contains-permutation (first ∷ xs) ys t moved (Contains-append_right (first ∷ []) xs t h) in
    let here = Contains-permutation (first ∷ xs) ys first moved (Contains-get_or (first ∷ xs) 0 first (omega arith)) in
    All-more (λ e. Contains ys (tentative e)) es i d l (All-weaker (λ e. Contains xs (tentative e)) (λ e. Contains ys (tentative e)) (λ e. before (tentative e)) (take i es) all) here

-- in the end all wait
pub all_of_them : (es : List Entry) (i : ℕ) (xs : List Tentative) → length es ≤ i → All (λ e. Contains xs (tentative e)) (take i es) → All (λ e. Contains xs (tentative e)) es
all_of_them es i xs l all = subst (λ (ds : List Entry). All (λ e. Contains xs (tentative e)) ds) (take_all i es l) all

-- ---- the beginning and the end
-- an entry of a column stands for the number at its row
pub number_waits : (es : List Entry) (u : ℕ) → value_at infinite es u 0 ≢ infinite → Contains (map tentative es) (record { number = value_at infinite es u 0; vertex = u })
unfolding value_at
number_waits [] u h = absurd (h refl)
number_waits (e ∷ es) u h =
    elim (is_at u 0 e) as (λ (b : Bool). is_at u 0 e ≡ b → cond b e.value (value_at infinite es u 0) ≢ infinite → Contains (map tentative (e ∷ es)) (record { number = cond b e.value (value_at infinite es u 0); vertex = u })) [
      | true ↦ λ t _. subst (λ (w : ℕ). Contains (map tentative (e ∷ es)) (record { number = e.value; vertex = w })) (sym (is_at-parts e u 0 t).0) (Contains-get_or (map tentative (e ∷ es)) 0 (tentative e) (omega arith))
      | false ↦ λ _ n. Contains-append_right (tentative e ∷ []) (map tentative es) (record { number = value_at infinite es u 0; vertex = u }) (number_waits es u n)
    ] refl h

-- whether or not a vertex's number is finite, it waits with it or can lower no other
pub waits_or_relaxed : (a : Sparse) (d : ℕ → ℕ) (es : List Entry) (u : ℕ) → ((v : ℕ) → d v ≤ infinite) → value_at infinite es u 0 ≡ d u → IsWaiting d (map tentative es) u ⊎ IsRelaxed a d u
waits_or_relaxed a d es u fits q = ⊎_elim
    (λ (e : d u ≡ infinite). inr (λ v. let fit = fits v in omega (arith, fit, e)))
    (λ (n : d u ≡ infinite → ⊥). inl (subst (λ (x : ℕ). Contains (map tentative es) (record { number = x; vertex = u })) q (number_waits es u (λ e. n (sym q ∙ e)))))
    (cases_eq (d u) infinite)

-- the source has the initial value 0, and the others have none
first_here : (source v : ℕ) → v ≡ source → first_at source v ≡ 0
first_here source v e = cond-true _ _ _ (eq-eqb v source e)

first_there : (source v : ℕ) → (v ≡ source → ⊥) → first_at source v ≡ infinite
first_there source v n = cond-false _ _ _ (ne-eqb v source n)

module _ (a : Sparse) (source k : ℕ) (d : ℕ → ℕ) where
  -- after some rounds, those that fell in the last one wait
  pub settling_begun : (es : List Entry) → Nearing a source k d (λ u. value_at infinite es u 0) → IsSettling a (first_at source) d (map tentative es)
  settling_begun es is = record {
    fits = is.fits;
    begins = λ v. ⊎_elim
        (λ (e : v ≡ source).
        let here : d source ≤ 0 = is.within source (source ∷ []) (walk_here min_plus a source) (omega arith) in
        let same : d v ≡ d source = ap d e in
        omega (arith, here, same, first_here source v e))
        (λ (n : v ≡ source → ⊥). let fit = is.fits v in omega (arith, fit, first_there source v n))
        (cases_eq v source);
    reached = λ v some.
        let w : (walk : List ℕ) × IsWalk min_plus a source v walk × (cost a walk ≡ d v) = is.reached v some in
        (source, w.0, w.1, omega (arith, w.2, first_here source source refl));
    settled = λ u. ⊎_elim
        (λ (q : value_at infinite es u 0 ≡ d u). waits_or_relaxed a d es u is.fits q)
        (λ (q : (value_at infinite es u 0 ≡ infinite) × ((v : ℕ) → d v ≤ d u + at min_plus a u v)). inr q.1)
        (is.fell u);
  }

  -- if nothing waits, no walk costs less, whatever its steps
  pub settling_done : (x : ℕ → ℕ) → ((u : ℕ) → x u ≡ infinite) → IsSettling a (first_at source) d [] → Nearing a source k d x
  settling_done x none is =
      let relaxed = all_relaxed a (first_at source) d is in
      record {
        fits = is.fits;
        reached = λ v some.
            let w : (u : ℕ) × (walk : List ℕ) × IsWalk min_plus a u v walk × (first_at source u + cost a walk ≡ d v) = is.reached v some in
            ⊎_elim
            (λ (e : w.0 ≡ source). (w.1, subst (λ (u : ℕ). IsWalk min_plus a u v w.1) e w.2, omega (arith, w.3, first_here source w.0 e)))
            (λ (n : w.0 ≡ source → ⊥). absurd (let fit = is.fits v in some (omega (arith, w.3, first_there source w.0 n, fit))))
            (cases_eq w.0 source);
        within = λ v walk h _. let l = closed a source d relaxed source v walk h in let z = is.begins source in omega (arith, l, z, first_here source source refl);
        fell = λ u. inr (none u, relaxed u);
      }

-- once all vertices settled, a search has come to its end
pub search_settled : (a : Sparse) (source k : ℕ) (search last : Search) → IsSearch a source k search → AreNumbers a.shape.rows last.known → last.fell ≡ empty_matrix search.fell.shape
    → (IsSettling a (first_at source) (number_at search.known) (map tentative search.fell.entries) → IsSettling a (first_at source) (number_at last.known) []) → IsWholeSearch a source k last
unfolding value_at
search_settled a source k search last is numbers none settles =
    let entries : last.fell.entries ≡ [] = ap (λ (m : Sparse). m.entries) none in (
      record {
        matrix = is.matrix;
        square = is.square;
        vertex = is.vertex;
        numbers = numbers;
        shape = ap (λ (m : Sparse). m.shape) none ∙ is.shape;
        nearing = settling_done a source k (number_at last.known) (λ u. at min_plus last.fell u 0) (λ u. ap (λ (es : List Entry). value_at infinite es u 0) entries)
            (settles (settling_begun a source k (number_at search.known) search.fell.entries is.nearing));
      },
      inl entries,
    )

-- ---- the work that is left
sum_within : (f g : ℕ → ℕ) (a n : ℕ) → ((v : ℕ) → g v ≤ f v) → sum_by g (range_with_len a n) ≤ sum_by f (range_with_len a n)
sum_within f g a zero h = omega arith
sum_within f g a (suc n) h = omega (arith, sum_by-cons f a (range_with_len (a + 1) n), sum_by-cons g a (range_with_len (a + 1) n), h a, sum_within f g (a + 1) n h)

-- if one number falls and none rises, the sum falls
sum_falls : (f g : ℕ → ℕ) (v a n : ℕ) → a ≤ v → v < a + n → ((w : ℕ) → g w ≤ f w) → g v < f v → sum_by g (range_with_len a n) < sum_by f (range_with_len a n)
sum_falls f g v a zero l m h s = absurd (omega arith)
sum_falls f g v a (suc n) l m h s =
    ⊎_elim
    (λ (e : a ≡ v). let here : g a < f a = subst (λ (w : ℕ). g w < f w) (sym e) s in omega (arith, sum_by-cons f a (range_with_len (a + 1) n), sum_by-cons g a (range_with_len (a + 1) n), here, sum_within f g (a + 1) n h))
    (λ (ne : a ≡ v → ⊥). let p : a ≢ v = ne in let r = sum_falls f g v (a + 1) n (omega arith) (omega arith) h s in omega (arith, sum_by-cons f a (range_with_len (a + 1) n), sum_by-cons g a (range_with_len (a + 1) n), h a, r))
    (cases_eq a v)

-- if one number falls and waits, no more work is left than before
pub work_lowered : {X : Type 0} (n : ℕ) (old new : Numbers) (xs ys : List X) (v x : ℕ) → v < n → x < number_at old v → ((w : ℕ) → number_at new w ≡ cond (w == v) x (number_at old w)) → length ys ≡ length xs + 1 → work_left n new ys ≤ work_left n old xs
work_lowered n old new xs ys v x inside l h long =
    let here : number_at new v ≡ x = h v ∙ cond-true _ _ _ (eq-eqb v v refl) in
    let falls : (w : ℕ) → number_at new w ≤ number_at old w = λ w. ⊎_elim
    (λ (e : w ≡ v). let q : number_at new w ≡ x = ap (number_at new) e ∙ here in let r : number_at old w ≡ number_at old v = ap (number_at old) e in omega (arith, q, r))
    (λ (m : w ≡ v → ⊥). let q : number_at new w ≡ number_at old w = h w ∙ cond-false _ _ _ (ne-eqb w v m) in omega (arith, q))
    (cases_eq w v) in
    let falls_here : number_at new v < number_at old v = omega (arith, here, l) in
    omega (arith, sum_falls (number_at old) (number_at new) v 0 n (omega arith) (omega arith) falls falls_here, long)
