-- Entries of tiles, with their places in the whole shape.
use Rattle.std.proofs.Common.{◌≡◌, ◌≢◌, ℕ, ◌+◌, ◌<◌, true, false, cond, List, [], ◌∷◌, ◌++◌, map, filter, refl, sym, ap, subst, ⊎_elim, ◌∙◌, arith, append-nil}
use Rattle.std.specs.Prelude.{All, AllPairs}
use Rattle.std.proofs.lemmas.Bool.{cases_eq, false_from_ne_true}
use Rattle.std.proofs.lemmas.Bool.Decides.{nat_tests}
use Rattle.std.proofs.lemmas.List.Elements.{All-nil, All-cons, All-head, All-tail, All-append}
use Rattle.cb_semirings.specs.Arithmetic.{Arithmetic, IsValue, IsSemiring}
use Rattle.cb_matrix.specs.declared.Entry.{Entry}
use Rattle.cb_matrix.specs.Sparse.{Extent, Sparse, IsMatrix, is_at, at, value_at, IsBefore, IsInside}
use Rattle.cb_matrix.specs.Values.{matrix_of, total, values_at, collected}
use Rattle.cb_matrix.proofs.Places.{is_at-parts, AllPairs-head, AllPairs-tail}
use Rattle.cb_matrix.proofs.Totals.{values_at-append, total-one}
use Rattle.cb_matrix.proofs.Made.{same_matrix_of}
use Rattle.cb_dcsc.specs.Columns.{rows_of, values_of}
use Rattle.cb_dcsc.specs.Compressed.{entries_in}
use Rattle.cb_grid.specs.Tiles.{Tiles}
use Rattle.cb_plan_vectors.specs.PieceTiles.{IsGathered}
use Rattle.cb_layout.specs.Segments.{shifted}
use Rattle.cb_grid.proofs.Tiles.{IsTiling}

-- an entry of tile r, with its place in the whole shape
abbrev pub placed_entry : Tiles → ℕ → Entry → Entry
placed_entry t r e = record { row = t.top r + e.row; column = t.left r + e.column; value = e.value }

module _ (shape : Extent) (t : Tiles) (is : IsTiling shape t) (r : ℕ) (known : r < t.count) where
  pub placed_inside : (e : Entry) → IsInside (t.size r) e → IsInside shape (placed_entry t r e)
  placed_inside e k = is.inside r e.row e.column known k.0 k.1

  pub placed_all : (P : Entry → Type 0) (es : List Entry) → ((e : Entry) → IsInside (t.size r) e → P (placed_entry t r e)) → All (IsInside (t.size r)) es → All P (map (placed_entry t r) es)
  placed_all P [] h k = All-nil P
  placed_all P (e ∷ es) h k = All-cons P (placed_entry t r e) (map (placed_entry t r) es) (h e (All-head (IsInside (t.size r)) e es k)) (placed_all P es h (All-tail (IsInside (t.size r)) e es k))

  pub placed_values : (s : Arithmetic) (es : List Entry) → All (λ e. IsValue s e.value) es → All (λ e. IsValue s e.value) (map (placed_entry t r) es)
  placed_values s [] h = All-nil (λ e. IsValue s e.value)
  placed_values s (e ∷ es) h = All-cons (λ e. IsValue s e.value) (placed_entry t r e) (map (placed_entry t r) es) (All-head (λ e. IsValue s e.value) e es h) (placed_values s es (All-tail (λ e. IsValue s e.value) e es h))

  same_here : (x y : ℕ) (e : Entry) → is_at (t.top r + x) (t.left r + y) (placed_entry t r e) ≡ is_at x y e
  same_here x y e = grind (arith, nat_tests)

  -- at a place of this tile
  pub placed_here : (x y : ℕ) (es : List Entry) → values_at (map (placed_entry t r) es) (t.top r + x) (t.left r + y) ≡ values_at es x y
  placed_here x y [] = refl
  placed_here x y (e ∷ es) =
      let value : Entry → ℕ = λ e. e.value in
      (λ i. map value (cond (same_here x y e i) (placed_entry t r e ∷ filter (is_at (t.top r + x) (t.left r + y)) (map (placed_entry t r) es)) (filter (is_at (t.top r + x) (t.left r + y)) (map (placed_entry t r) es))))
      ∙ elim (is_at x y e) as (λ b. map value (cond b (placed_entry t r e ∷ filter (is_at (t.top r + x) (t.left r + y)) (map (placed_entry t r) es)) (filter (is_at (t.top r + x) (t.left r + y)) (map (placed_entry t r) es))) ≡ map value (cond b (e ∷ filter (is_at x y) es) (filter (is_at x y) es))) [
        | true ↦ ap (λ xs. e.value ∷ xs) (placed_here x y es)
        | false ↦ placed_here x y es
      ]

  -- at a place of another tile
  pub placed_elsewhere : (n x y : ℕ) (es : List Entry) → n < t.count → n ≢ r → x < (t.size n).rows → y < (t.size n).cols → All (IsInside (t.size r)) es → values_at (map (placed_entry t r) es) (t.top n + x) (t.left n + y) ≡ []
  placed_elsewhere n x y [] l ne a b k = refl
  placed_elsewhere n x y (e ∷ es) l ne a b k =
      let inside : IsInside (t.size r) e = All-head (IsInside (t.size r)) e es k in
      let missed : is_at (t.top n + x) (t.left n + y) (placed_entry t r e) ≡ false =
      false_from_ne_true (is_at (t.top n + x) (t.left n + y) (placed_entry t r e)) (λ h.
      let p = is_at-parts (placed_entry t r e) (t.top n + x) (t.left n + y) h in
      ne (sym (is.own n x y l a b) ∙ (λ i. t.owner (p.0 i) (p.1 i)) ∙ is.own r e.row e.column known inside.0 inside.1)) in
      rw missed (placed_elsewhere n x y es l ne a b (All-tail (IsInside (t.size r)) e es k))

-- said of the same entries in another way
pub gathered_same : (s : Arithmetic) (shape : Extent) (t : Tiles) (some more : ℕ → List Entry) (out : List Entry) → ((r : ℕ) → r < t.count → some r ≡ more r) → IsGathered s shape t some out → IsGathered s shape t more out
gathered_same s shape t some more out h k = record {
  values = λ r x y l m n. k.values r x y l m n ∙ ap (λ es. values_at es x y) (h r l);
  inside = k.inside;
  are_values = k.are_values;
}

-- more entries of one tile
pub gathered_more : (s : Arithmetic) (shape : Extent) (t : Tiles) → IsTiling shape t → (some more : ℕ → List Entry) (out new es : List Entry) (r : ℕ) → r < t.count → All (IsInside (t.size r)) es → All (λ e. IsValue s e.value) es
    → more r ≡ some r ++ es → ((n : ℕ) → n < t.count → n ≢ r → more n ≡ some n) → new ≡ out ++ map (placed_entry t r) es → IsGathered s shape t some out → IsGathered s shape t more new
gathered_more s shape t is some more out new es r known inside values own other e h = record {
  values = λ n x y l a b.
      ap (λ xs. values_at xs (t.top n + x) (t.left n + y)) e
      ∙ values_at-append out (map (placed_entry t r) es) (t.top n + x) (t.left n + y)
      ∙ ap (λ xs. xs ++ values_at (map (placed_entry t r) es) (t.top n + x) (t.left n + y)) (h.values n x y l a b)
      ∙ ⊎_elim
      (λ (p : n ≡ r).
      subst (λ n. values_at (some n) x y ++ values_at (map (placed_entry t r) es) (t.top n + x) (t.left n + y) ≡ values_at (more n) x y) (sym p)
      (ap (λ xs. values_at (some r) x y ++ xs) (placed_here shape t is r known x y es)
      ∙ sym (values_at-append (some r) es x y)
      ∙ ap (λ xs. values_at xs x y) (sym own)))
      (λ (p : n ≢ r).
      ap (λ xs. values_at (some n) x y ++ xs) (placed_elsewhere shape t is r known n x y es l p a b inside)
      ∙ append-nil (values_at (some n) x y)
      ∙ ap (λ xs. values_at xs x y) (sym (other n l p)))
      (cases_eq n r);
  inside = subst (λ xs. All (IsInside shape) xs) (sym e) (All-append (IsInside shape) out (map (placed_entry t r) es) h.inside (placed_all shape t is r known (IsInside shape) es (placed_inside shape t is r known) inside));
  are_values = subst (λ xs. All (λ e. IsValue s e.value) xs) (sym e) (All-append (λ e. IsValue s e.value) out (map (placed_entry t r) es) h.are_values (placed_values shape t is r known s es values));
}

-- entries in order have one value at a place
no_values : (es : List Entry) (d : Entry) (i j : ℕ) → is_at i j d ≡ true → All (IsBefore d) es → values_at es i j ≡ []
no_values [] d i j h k = refl
no_values (e ∷ es) d i j h k =
    let p = is_at-parts d i j h in
    let b : IsBefore d e = All-head (IsBefore d) e es k in
    let missed : is_at i j e ≡ false = false_from_ne_true (is_at i j e) (λ m. let q = is_at-parts e i j m in ⊎_elim (λ x. omega arith) (λ x. omega arith) b) in
    rw missed (no_values es d i j h (All-tail (IsBefore d) e es k))

pub one_total : (s : Arithmetic) → IsSemiring s → (es : List Entry) (i j : ℕ) → AllPairs IsBefore es → All (λ e. IsValue s e.value) es → total s (values_at es i j) ≡ value_at s.zero es i j
unfolding total value_at
one_total s laws [] i j h k = refl
one_total s laws (e ∷ es) i j h k =
    let value : Entry → ℕ = λ e. e.value in
    elim (is_at i j e) as (λ b. is_at i j e ≡ b → total s (map value (cond b (e ∷ filter (is_at i j) es) (filter (is_at i j) es))) ≡ cond b e.value (value_at s.zero es i j)) [
      | true ↦ λ t. ap (λ xs. total s (e.value ∷ xs)) (no_values es e i j t (AllPairs-head IsBefore e es h)) ∙ total-one s laws e.value (All-head (λ e. IsValue s e.value) e es k)
      | false ↦ λ _. one_total s laws es i j (AllPairs-tail IsBefore e es h) (All-tail (λ e. IsValue s e.value) e es k)
    ] refl

-- all entries of all tiles are the matrix that has in each place what the tile there has
pub gathered_all : (s : Arithmetic) → IsSemiring s → (shape : Extent) (t : Tiles) → IsTiling shape t → (block : ℕ → Sparse) → ((r : ℕ) → r < t.count → IsMatrix s (block r)) → (out : List Entry) → IsGathered s shape t (λ r. (block r).entries) out
    → collected s shape out ≡ matrix_of s shape (λ i j. at s (block (t.owner i j)) (t.row i j) (t.column i j))
gathered_all s laws shape t is block matrices out h =
    same_matrix_of s shape (λ i j. total s (values_at out i j)) (λ i j. at s (block (t.owner i j)) (t.row i j) (t.column i j)) (λ i j l m.
    let r = t.owner i j in
    let x = t.row i j in
    let y = t.column i j in
    let known : r < t.count = is.owned i j l m in
    let place : values_at out i j ≡ values_at (block r).entries x y =
    (λ k. values_at out (sym (is.rows i j l m) k) (sym (is.columns i j l m) k)) ∙ h.values r x y known (is.row_below i j l m) (is.column_below i j l m) in
    ap (total s) place ∙ one_total s laws (block r).entries x y (matrices r known).ascending (matrices r known).values)

-- the entries of a column, by their rows and values
pub placed_column : (top column : ℕ) (es : List Entry) (left c : ℕ) → column ≡ left + c → All (λ e. e.column ≡ c) es
    → shifted top column (rows_of es) (values_of es) ≡ map (λ e. let d : Entry = record { row = top + e.row; column = left + e.column; value = e.value } in d) es
unfolding entries_in
placed_column top column [] left c h k = refl
placed_column top column (e ∷ es) left c h k =
    let own : e.column ≡ c = All-head (λ e. e.column ≡ c) e es k in
    let rest = placed_column top column es left c h (All-tail (λ e. e.column ≡ c) e es k) in
    λ i. record { row = top + e.row; column = (h ∙ ap (λ x. left + x) (sym own)) i; value = e.value } ∷ rest i
