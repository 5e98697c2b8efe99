-- A round from the bottom up, column by column, and the queue of the vertices that rounds reached.
use Rattle.std.proofs.Common.{◌≡◌, ◌≢◌, ℕ, ◌+◌, ◌<◌, ◌≤◌, ◌⊎◌, cond, inl, inr, ⊎_elim, List, [], ◌∷◌, ◌++◌, length, get_or, set, subst, sym, refl, ap, ◌∙◌, arith}
use Rattle.std.specs.Prelude.{All, Contains, ◌==◌}
use Rattle.std.proofs.lemmas.Bool.{cases_eq, cond-true, cond-false, eq-eqb, eqb-true}
use Rattle.std.proofs.lemmas.Grind.{get_or-set_at}
use Rattle.std.proofs.lemmas.List.{get_or_default, get_or-set_other}
use Rattle.std.proofs.lemmas.List.Elements.{All-nil, All-push, All-get_or, All-weaker, All-contains, All-map, All-filter, filter_passes}
use Rattle.std.specs.declared.alloc.Global.{Global}
use Rattle.std.specs.declared.vec.Vec.{Vec}
use Rattle.cb_semirings.specs.Tables.{or_and}
use Rattle.cb_matrix.specs.declared.Entry.{Entry}
use Rattle.cb_matrix.specs.Sparse.{Sparse, IsMatrix, at}
use Rattle.cb_matrix.proofs.Search.{value_at-there}
use Rattle.cb_dcsc.specs.Columns.{in_column, rows_of}
use Rattle.cb_searches.specs.declared.numbers.Numbers.{Numbers}
use Rattle.cb_searches.specs.declared.numbers.Numbers.TheVariants.{Dense}
use Rattle.cb_searches.specs.Walks.{infinite}
use Rattle.cb_searches.specs.Numbers.{number_at, listed_at, AreNumbers}
use Rattle.cb_searches.specs.BreadthFirst.{AreLevelNumbers, AreLevelsWithin, IsNext, IsReaching}
use Rattle.cb_searches.proofs.ColumnEdges.{edge_row}
use Rattle.cb_searches.proofs.LevelRounds.{round_made}
use Rattle.cb_searches.proofs.TakenNumbers.{ne-eqb}

-- the numbers of a list in which one is set
pub number_set : (list : List ℕ) (v x : ℕ) → v < length list → (w : ℕ) → listed_at (set list v x) w ≡ cond (w == v) x (listed_at list w)
number_set list v x place w =
    ⊎_elim
    (λ (e : w ≡ v). get_or-set_at list v w x infinite e place ∙ sym (cond-true _ _ _ (eq-eqb w v e)))
    (λ (n : w ≢ v). get_or-set_other list v w x infinite n ∙ sym (cond-false _ _ _ (ne-eqb w v n)))
    (cases_eq w v)

module _ (a : Sparse) (k : ℕ) (old : ℕ → ℕ) where
  -- After the columns of the vertices vs: each number is as it was, or is k + 1 if there was none and an edge leads to its
  -- vertex from one that is near; and each vertex of vs to which such an edge leads has a number.
  pub record IsRoundSoFar (new : ℕ → ℕ) (vs : List ℕ) : Type 0 where
    pub held : (v : ℕ) → (new v ≡ old v) ⊎ ((old v ≡ infinite) × (new v ≡ k + 1) × IsNext a k old v)
    pub all : All (λ v. IsNext a k old v → new v ≢ infinite) vs

  module _ (few : k + 1 < infinite) (new : ℕ → ℕ) (vs : List ℕ) (so_far : IsRoundSoFar new vs) where
    -- what is near now was near before
    near_before : (u : ℕ) → new u ≤ k → old u ≤ k
    near_before u l =
        ⊎_elim
        (λ (same : new u ≡ old u). omega (arith, same, l))
        (λ (set : (old u ≡ infinite) × (new u ≡ k + 1) × IsNext a k old u). absurd (omega (arith, set.1, l)))
        (so_far.held u)

    -- what is far now was far before
    far_before : (u : ℕ) → k < new u → k < old u
    far_before u l =
        ⊎_elim
        (λ (same : new u ≡ old u). omega (arith, same, l))
        (λ (set : (old u ≡ infinite) × (new u ≡ k + 1) × IsNext a k old u). omega (arith, set.0, few))
        (so_far.held u)

    -- the next column has a row that is near
    pub next_set : (v u : ℕ) (now : ℕ → ℕ) → new v ≡ infinite → at or_and a u v ≢ 0 → new u ≤ k → ((w : ℕ) → now w ≡ cond (w == v) (k + 1) (new w)) → IsRoundSoFar now (vs ++ v ∷ [])
    next_set v u now blank edge near values =
        let own : now v ≡ k + 1 = values v ∙ cond-true _ _ _ (eq-eqb v v refl) in
        let other = λ (w : ℕ) (n : w ≢ v). values w ∙ cond-false _ (k + 1) (new w) (ne-eqb w v n) in
        let before : old v ≡ infinite = ⊎_elim
        (λ (same : new v ≡ old v). sym same ∙ blank)
        (λ (set : (old v ≡ infinite) × (new v ≡ k + 1) × IsNext a k old v). set.0)
        (so_far.held v) in
        record {
          held = λ w. ⊎_elim
              (λ (e : w ≡ v). inr (ap old e ∙ before, ap now e ∙ own, (u, λ z. edge (ap (at or_and a u) (sym e) ∙ z), near_before u near)))
              (λ (n : w ≢ v). ⊎_elim
              (λ (same : new w ≡ old w). inl (other w n ∙ same))
              (λ (set : (old w ≡ infinite) × (new w ≡ k + 1) × IsNext a k old w). inr (set.0, other w n ∙ set.1, set.2))
              (so_far.held w))
              (cases_eq w v);
          all = All-push (λ w. IsNext a k old w → now w ≢ infinite) vs v
              (All-weaker (λ w. IsNext a k old w → new w ≢ infinite) (λ w. IsNext a k old w → now w ≢ infinite)
              (λ w h next z. ⊎_elim (λ (e : w ≡ v). omega (arith, sym (ap now e ∙ own) ∙ z, few)) (λ (n : w ≢ v). h next (sym (other w n) ∙ z)) (cases_eq w v)) vs so_far.all)
              (λ _ z. omega (arith, sym own ∙ z, few));
        }

    -- the next column's vertex stays as it was
    next_kept : (v : ℕ) → (IsNext a k old v → new v ≢ infinite) → IsRoundSoFar new (vs ++ v ∷ [])
    next_kept v h = record { held = so_far.held; all = All-push (λ w. IsNext a k old w → new w ≢ infinite) vs v so_far.all h }

    -- since it has a number
    pub next_passed : (v : ℕ) → new v ≢ infinite → IsRoundSoFar new (vs ++ v ∷ [])
    next_passed v some = next_kept v (λ _. some)

    -- or since all its rows are far
    pub next_far : (v : ℕ) → IsMatrix or_and a → All (λ u. k < new u) (rows_of (in_column v a.entries)) → IsRoundSoFar new (vs ++ v ∷ [])
    next_far v is far = next_kept v (λ next. let l = far_before next.0 (All-contains (λ u. k < new u) (rows_of (in_column v a.entries)) next.0 far (edge_row a is next.0 v next.1)) in absurd (omega (arith, l, next.2)))

    -- after all columns with entries it is one more round
    pub round_done : ((u v : ℕ) → at or_and a u v ≢ 0 → Contains vs v) → (source : ℕ) → AreLevelsWithin a source k old → AreLevelsWithin a source (k + 1) new
    round_done listed =
        round_made a k old few new so_far.held
        (λ u v edge near. All-contains (λ w. IsNext a k old w → new w ≢ infinite) vs v so_far.all (listed u v edge) (u, edge, near))

-- the place of an entry in a block is an edge
pub entry_edge : (a : Sparse) → IsMatrix or_and a → (n : ℕ) (d : Entry) → n < length a.entries → at or_and a (get_or a.entries n d).row (get_or a.entries n d).column ≢ 0
entry_edge a is n d inside none =
    let e = get_or a.entries n d in
    All-get_or (λ (f : Entry). f.value ≢ 0) a.entries n d inside is.not_zero (sym (value_at-there 0 a.entries n e.row e.column d is.ascending inside refl refl) ∙ none)

module _ (a : Sparse) (k : ℕ) (old : ℕ → ℕ) where
  -- After the entries es: the numbers are as above, and each column of es whose row is near has a number.
  pub record IsRoundThrough (new : ℕ → ℕ) (es : List Entry) : Type 0 where
    pub held : (v : ℕ) → (new v ≡ old v) ⊎ ((old v ≡ infinite) × (new v ≡ k + 1) × IsNext a k old v)
    pub all : All (λ e. old e.row ≤ k → new e.column ≢ infinite) es

  module _ (few : k + 1 < infinite) (new : ℕ → ℕ) (es : List Entry) (so_far : IsRoundThrough new es) where
    no_columns : IsRoundSoFar a k old new []
    no_columns = record { held = so_far.held; all = All-nil (λ v. IsNext a k old v → new v ≢ infinite) }

    -- the next entry's row is near, and its column gets a number
    pub entry_set : (e : Entry) (now : ℕ → ℕ) → new e.column ≡ infinite → at or_and a e.row e.column ≢ 0 → new e.row ≤ k → ((w : ℕ) → now w ≡ cond (w == e.column) (k + 1) (new w)) → IsRoundThrough now (es ++ e ∷ [])
    entry_set e now blank edge near values =
        let v = e.column in
        let own : now v ≡ k + 1 = values v ∙ cond-true _ _ _ (eq-eqb v v refl) in
        record {
          held = (next_set a k old few new [] no_columns v e.row now blank edge near values).held;
          all = All-push (λ f. old f.row ≤ k → now f.column ≢ infinite) es e
              (All-weaker (λ f. old f.row ≤ k → new f.column ≢ infinite) (λ f. old f.row ≤ k → now f.column ≢ infinite)
              (λ f h l z. ⊎_elim (λ (s : f.column ≡ v). omega (arith, sym (ap now s ∙ own) ∙ z, few)) (λ (n : f.column ≢ v). h l (sym (values f.column ∙ cond-false _ (k + 1) (new f.column) (ne-eqb f.column v n)) ∙ z)) (cases_eq f.column v)) es so_far.all)
              (λ _ z. omega (arith, sym own ∙ z, few));
        }

    -- its column has a number
    pub entry_passed : (e : Entry) → new e.column ≢ infinite → IsRoundThrough new (es ++ e ∷ [])
    entry_passed e some = record { held = so_far.held; all = All-push (λ f. old f.row ≤ k → new f.column ≢ infinite) es e so_far.all (λ _. some) }

    -- its row is far
    pub entry_far : (e : Entry) → k < new e.row → IsRoundThrough new (es ++ e ∷ [])
    entry_far e far = record {
      held = so_far.held;
      all = All-push (λ f. old f.row ≤ k → new f.column ≢ infinite) es e so_far.all (λ l. absurd (omega (arith, l, far_before a k old few new [] no_columns e.row far)));
    }

    -- after all entries of the matrix it is one more round
    pub entries_done : es ≡ a.entries → IsMatrix or_and a → (source : ℕ) → AreLevelsWithin a source k old → AreLevelsWithin a source (k + 1) new
    entries_done whole is =
        let through : All (λ (e : Entry). old e.row ≤ k → new e.column ≢ infinite) a.entries = subst (All (λ (e : Entry). old e.row ≤ k → new e.column ≢ infinite)) whole so_far.all in
        round_made a k old few new so_far.held
        (λ u v edge near. All-contains (λ w. old w ≤ k → new v ≢ infinite) (rows_of (in_column v a.entries)) u
        (All-map (λ w. old w ≤ k → new v ≢ infinite) (λ (e : Entry). e.row) (in_column v a.entries)
        (λ i d l. let own = filter_passes (λ (e : Entry). e.column == v) a.entries i d l in
        let here = All-filter (λ (e : Entry). e.column == v) (λ (e : Entry). old e.row ≤ k → new e.column ≢ infinite) a.entries through i d l in
        λ near z. here near (ap new (eqb-true (get_or (in_column v a.entries) i d).column v own) ∙ z)))
        (edge_row a is u v edge) near)

-- the queue of the vertices that have level k
pub reaching_queued : (a : Sparse) (source k : ℕ) (known : Numbers) (q : List ℕ) → AreNumbers a.shape.rows known → AreLevelsWithin a source k (number_at known) → All (λ v. number_at known v ≡ k) q → ((v : ℕ) → number_at known v ≡ k → Contains q v) → IsReaching a source k known q 0
reaching_queued a source k known q numbers rounds near all = record {
  numbers = numbers;
  rounds = rounds;
  within = omega arith;
  near = λ i l. omega (arith, All-get_or (λ v. number_at known v ≡ k) q i 0 l near);
  last = λ v here.
      let there = all v here in
      (there.0, omega arith, there.1, get_or_default q there.0 0 v there.1 ∙ there.2);
}

-- the same where the numbers are in a list
pub list_reaching : (a : Sparse) (source k : ℕ) (list q : List ℕ) → length list ≡ a.shape.rows → AreLevelsWithin a source k (listed_at list) → All (λ v. listed_at list v ≡ k) q → ((v : ℕ) → listed_at list v ≡ k → Contains q v) → (known : Vec ℕ Global) → known.items ≡ list → IsReaching a source k (Dense known) q 0
list_reaching a source k list q long rounds near all known items =
    reaching_queued a source k (Dense known) q
    (subst (λ (xs : List ℕ). (length xs ≡ a.shape.rows) × All (λ x. x ≤ infinite) xs) (sym items) (long, λ v d l. omega (arith, get_or_default list v d infinite l, rounds.fits v)))
    (subst (λ (xs : List ℕ). AreLevelsWithin a source k (listed_at xs)) (sym items) rounds)
    (subst (λ (xs : List ℕ). All (λ v. listed_at xs v ≡ k) q) (sym items) near)
    (subst (λ (xs : List ℕ). (v : ℕ) → listed_at xs v ≡ k → Contains q v) (sym items) all)

-- levels in a list
pub list_levels : (a : Sparse) (source : ℕ) (list : List ℕ) → length list ≡ a.shape.rows → AreLevelNumbers a source (listed_at list) → (known : Vec ℕ Global) → known.items ≡ list → AreNumbers a.shape.rows (Dense known) × AreLevelNumbers a source (number_at (Dense known))
list_levels a source list long levels known items = (
  subst (λ (xs : List ℕ). (length xs ≡ a.shape.rows) × All (λ x. x ≤ infinite) xs) (sym items) (long, λ v d l. omega (arith, get_or_default list v d infinite l, levels.fits v)),
  subst (λ (xs : List ℕ). AreLevelNumbers a source (listed_at xs)) (sym items) levels,
)
