-- Trees of which each vertex has a root as its parent, by the entries of a column of the parents.
use Rattle.std.proofs.Common.{◌≡◌, ◌≢◌, ℕ, suc, ◌<◌, true, false, ⊎_elim, List, [], ◌∷◌, length, get_or, subst, sym, refl, ◌∙◌, arith}
use Rattle.std.specs.Prelude.{All}
use Rattle.std.proofs.lemmas.Bool.{cases_Bool}
use Rattle.cb_semirings.specs.Tables.{min_plus}
use Rattle.cb_matrix.specs.declared.Entry.{Entry}
use Rattle.cb_matrix.specs.Sparse.{Sparse, IsMatrix, IsInside, is_at, at, value_at}
use Rattle.cb_matrix.proofs.Places.{is_at-parts, value_at-other}
use Rattle.cb_matrix.proofs.Search.{value_at-there}
use Rattle.cb_searches.specs.Walks.{infinite}
use Rattle.cb_graphs.specs.Forests.{IsFlat}

abbrev blank : Entry
blank = record { row = 0; column = 0; value = 0 }

-- a place that has a value has an entry
listed_row : (z v : ℕ) (es : List Entry) → value_at z es v 0 ≢ z → (k : ℕ) × (k < length es) × ((get_or es k blank).row ≡ v)
unfolding value_at
listed_row z v [] some = absurd (some refl)
listed_row z v (e ∷ es) some =
    ⊎_elim
    (λ (here : is_at v 0 e ≡ true). (0, omega arith, sym (is_at-parts e v 0 here).0))
    (λ (other : is_at v 0 e ≡ false).
    let later : (k : ℕ) × (k < length es) × ((get_or es k blank).row ≡ v) = listed_row z v es (λ none. some (value_at-other z e es v 0 other ∙ none)) in
    let l : later.0 < length es = later.1 in
    (suc later.0, omega (arith, l), later.2))
    (cases_Bool (is_at v 0 e))

module _ (m : Sparse) (is : IsMatrix min_plus m) (one : m.shape.cols ≡ 1) (p : ℕ → ℕ) (values : (v : ℕ) → at min_plus m v 0 ≡ p v) where
  -- the vertex of each entry is in a tree
  pub each_entry : All (λ e. p e.row ≢ infinite) m.entries
  each_entry k d l none =
      let e = get_or m.entries k d in
      let inside : IsInside m.shape e = is.inside k d l in
      let first : e.column ≡ 0 = omega (arith, inside.1, one) in
      is.not_zero k d l (sym (value_at-there infinite m.entries k e.row 0 d is.ascending l refl first) ∙ values e.row ∙ none)

  -- what holds of the vertex of each entry holds of each vertex of a tree
  pub each_vertex : (q : ℕ → ℕ) → All (λ e. IsFlat q e.row) m.entries → (v : ℕ) → p v ≢ infinite → IsFlat q v
  each_vertex q all v some =
      let there : (k : ℕ) × (k < length m.entries) × ((get_or m.entries k blank).row ≡ v) = listed_row infinite v m.entries (λ none. some (sym (values v) ∙ none)) in
      subst (IsFlat q) there.2 (all there.0 blank there.1)
