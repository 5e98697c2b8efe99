-- A column that has an entry for each of some vertices, ascending, whose number isn't the zero z of a semiring.
use Rattle.std.proofs.Common.{◌≡◌, ◌≢◌, ℕ, ◌+◌, ◌<◌, Bool, true, cond, inr, ⊎_elim, List, [], ◌∷◌, ◌++◌, length, take, get_or, map, sym, refl, ap, ◌∙◌, arith}
use Rattle.std.specs.Prelude.{All, AllPairs, Contains, filter, not, ◌==◌}
use Rattle.std.proofs.lemmas.Bool.{cases_eq, cond-true, cond-false, eq-eqb, false≢true}
use Rattle.std.proofs.lemmas.List.{append-nil, map-append, take_more}
use Rattle.std.proofs.lemmas.List.Elements.{All-filter, All-map, All-weaker, filter-append, filter_passes}
use Rattle.std.proofs.lemmas.List.Kept.{AllPairs-filter}
use Rattle.std.proofs.lemmas.Map.Made.{Contains-tail}
use Rattle.cb_semirings.specs.Arithmetic.{Arithmetic, IsValue}
use Rattle.cb_matrix.specs.declared.Entry.{Entry}
use Rattle.cb_matrix.specs.Sparse.{Extent, IsMatrix, IsBefore, IsInside, value_at}
use Rattle.cb_matrix.proofs.Pairs.{AllPairs-nil, AllPairs-cons, AllPairs-head, AllPairs-tail}
use Rattle.cb_matrix.proofs.Places.{is_at-own}
use Rattle.cb_searches.specs.Numbers.{number_entry}
use Rattle.cb_searches.proofs.TakenNumbers.{ne-eqb, other_row}

-- whether an entry's number isn't zero
abbrev pub is_stored : ℕ → Entry → Bool
is_stored z e = not (e.value == z)

abbrev pub own_entry : (ℕ → ℕ) → ℕ → Entry
own_entry f v = number_entry (v, f v)

-- the entries of the vertices whose number isn't zero
abbrev pub vertex_entries : ℕ → (ℕ → ℕ) → List ℕ → List Entry
vertex_entries z f vs = filter (is_stored z) (map (own_entry f) vs)

-- ---- one more vertex
module _ (z : ℕ) (f : ℕ → ℕ) (vs : List ℕ) (n : ℕ) (inside : n < length vs) (es now : List Entry) (before : es ≡ vertex_entries z f (take n vs)) where
  next : vertex_entries z f (take (n + 1) vs) ≡ es ++ cond (is_stored z (own_entry f (get_or vs n 0))) (own_entry f (get_or vs n 0) ∷ []) []
  next =
      ap (vertex_entries z f) (take_more vs n 0 inside)
      ∙ ap (filter (is_stored z)) (map-append (own_entry f) (take n vs) (get_or vs n 0 ∷ []))
      ∙ filter-append (is_stored z) (map (own_entry f) (take n vs)) (own_entry f (get_or vs n 0) ∷ [])
      ∙ ap (λ (xs : List Entry). xs ++ cond (is_stored z (own_entry f (get_or vs n 0))) (own_entry f (get_or vs n 0) ∷ []) []) (sym before)

  -- its number is added
  pub vertex_kept : (v x : ℕ) → v ≡ get_or vs n 0 → x ≡ f v → x ≢ z → now ≡ es ++ number_entry (v, x) ∷ [] → now ≡ vertex_entries z f (take (n + 1) vs)
  vertex_kept v x here value some e =
      e ∙ ap (λ (y : ℕ). es ++ number_entry (v, y) ∷ []) value ∙ ap (λ (u : ℕ). es ++ own_entry f u ∷ []) here
      ∙ sym (next ∙ ap (λ (xs : List Entry). es ++ xs) (cond-true _ _ _ (ap not (ne-eqb (f (get_or vs n 0)) z (λ q. some (value ∙ ap f here ∙ q))))))

  -- it has none
  pub vertex_passed : (v x : ℕ) → v ≡ get_or vs n 0 → x ≡ f v → x ≡ z → now ≡ es → now ≡ vertex_entries z f (take (n + 1) vs)
  vertex_passed v x here value none e =
      e ∙ sym (next ∙ ap (λ (xs : List Entry). es ++ xs) (cond-false _ _ _ (ap not (eq-eqb (f (get_or vs n 0)) z (sym (value ∙ ap f here) ∙ none)))) ∙ append-nil es)

-- ---- the column
ascends : (f : ℕ → ℕ) (vs : List ℕ) → AllPairs (λ c d. c < d) vs → AllPairs IsBefore (map (own_entry f) vs)
ascends f [] up = AllPairs-nil IsBefore
ascends f (v ∷ vs) up =
    AllPairs-cons IsBefore (own_entry f v) (map (own_entry f) vs)
    (All-map (IsBefore (own_entry f v)) (own_entry f) vs (All-weaker (λ w. v < w) (λ w. IsBefore (own_entry f v) (own_entry f w)) (λ w l. inr (refl, l)) vs (AllPairs-head (λ c d. c < d) v vs up)))
    (ascends f vs (AllPairs-tail (λ c d. c < d) v vs up))

-- they are a matrix of one column
pub vertex_matrix : (s : Arithmetic) (shape : Extent) (f : ℕ → ℕ) (vs : List ℕ) → shape.cols ≡ 1 → ((v : ℕ) → IsValue s (f v)) → AllPairs (λ c d. c < d) vs → All (λ v. v < shape.rows) vs → IsMatrix s (record { shape = shape; entries = vertex_entries s.zero f vs })
vertex_matrix s shape f vs one fits up inside = record {
  ascending = AllPairs-filter IsBefore (is_stored s.zero) (map (own_entry f) vs) (ascends f vs up);
  inside = All-filter (is_stored s.zero) (IsInside shape) (map (own_entry f) vs) (All-map (IsInside shape) (own_entry f) vs (All-weaker (λ v. v < shape.rows) (λ v. IsInside shape (own_entry f v)) (λ v l. (l, omega arith)) vs inside));
  values = All-filter (is_stored s.zero) (λ e. IsValue s e.value) (map (own_entry f) vs)
      (All-map (λ e. IsValue s e.value) (own_entry f) vs (All-weaker (λ v. v < shape.rows) (λ v. IsValue s (f v)) (λ v _. fits v) vs inside));
  not_zero = All-weaker (λ e. is_stored s.zero e ≡ true) (λ e. e.value ≢ s.zero) (λ e t n. false≢true (sym (ap not (eq-eqb e.value s.zero n)) ∙ t)) (vertex_entries s.zero f vs) (filter_passes (is_stored s.zero) (map (own_entry f) vs));
}

head_kept : (z : ℕ) (f : ℕ → ℕ) (v : ℕ) (vs : List ℕ) → f v ≢ z → vertex_entries z f (v ∷ vs) ≡ own_entry f v ∷ vertex_entries z f vs
head_kept z f v vs n = cond-true _ _ _ (ap not (ne-eqb (f v) z n))

head_passed : (z : ℕ) (f : ℕ → ℕ) (v : ℕ) (vs : List ℕ) → f v ≡ z → vertex_entries z f (v ∷ vs) ≡ vertex_entries z f vs
head_passed z f v vs e = cond-false _ _ _ (ap not (eq-eqb (f v) z e))

-- at each vertex it has the vertex's number, if all vertices that have one are listed
pub vertex_value : (z : ℕ) (f : ℕ → ℕ) (vs : List ℕ) (v : ℕ) → (f v ≢ z → Contains vs v) → value_at z (vertex_entries z f vs) v 0 ≡ f v
unfolding value_at
vertex_value z f [] v listed = ⊎_elim (λ (e : f v ≡ z). sym e) (λ (n : f v ≡ z → ⊥). absurd (let h = listed n in omega (arith, h.1))) (cases_eq (f v) z)
vertex_value z f (u ∷ us) v listed =
    let later = λ (h : f v ≢ z → Contains us v). vertex_value z f us v h in
    let at_head = λ (xs : List Entry). value_at z xs v 0 in
    ⊎_elim
    (λ (none : f u ≡ z).
    ap at_head (head_passed z f u us none) ∙ later (λ n. Contains-tail u us v (λ same. n (ap f (sym same) ∙ none)) (listed n)))
    (λ (some : f u ≡ z → ⊥).
    ap at_head (head_kept z f u us some)
    ∙ ⊎_elim
    (λ (same : v ≡ u). cond-true _ _ _ (is_at-own (own_entry f u) v 0 same refl) ∙ ap f (sym same))
    (λ (other : v ≡ u → ⊥). cond-false _ _ _ (other_row v (own_entry f u) other) ∙ later (λ n. Contains-tail u us v (λ same. other (sym same)) (listed n)))
    (cases_eq v u))
    (cases_eq (f u) z)
