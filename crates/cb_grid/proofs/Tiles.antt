-- A shape cut into tiles: each place is in one of them.
use Rattle.std.proofs.Common.{◌≡◌, ◌≢◌, ℕ, ◌+◌, ◌<◌, true, false, cond, inl, inr, List, [], ◌∷◌, ◌++◌, refl, sym, ap, ⊎_elim, ◌∙◌, arith}
use Rattle.std.specs.Prelude.{All, AllPairs, ◌==◌}
use Rattle.std.proofs.lemmas.Bool.{cond-false, eqb-true, eqb-false, false_from_ne_true}
use Rattle.std.proofs.lemmas.Bool.Decides.{nat_tests}
use Rattle.std.proofs.lemmas.List.Elements.{All-nil, All-cons, All-head, All-tail}
use Rattle.cb_semirings.specs.Arithmetic.{Arithmetic, IsValue}
use Rattle.cb_matrix.specs.declared.Entry.{Entry}
use Rattle.cb_matrix.specs.Sparse.{Extent, Sparse, IsMatrix, is_at, value_at, IsBefore, IsInside}
use Rattle.cb_grid.specs.Tiles.{Tiles}
use Rattle.cb_matrix.proofs.Places.{is_at-parts, AllPairs-head, AllPairs-tail}
use Rattle.cb_matrix.proofs.Made.{AllPairs-nil, AllPairs-cons}

-- each place of the shape is in the tile that owns it, and in no other
pub record IsTiling (shape : Extent) (t : Tiles) : Type 0 where
  pub owned : (i j : ℕ) → i < shape.rows → j < shape.cols → t.owner i j < t.count
  pub rows : (i j : ℕ) → i < shape.rows → j < shape.cols → t.top (t.owner i j) + t.row i j ≡ i
  pub columns : (i j : ℕ) → i < shape.rows → j < shape.cols → t.left (t.owner i j) + t.column i j ≡ j
  pub row_below : (i j : ℕ) → i < shape.rows → j < shape.cols → t.row i j < (t.size (t.owner i j)).rows
  pub column_below : (i j : ℕ) → i < shape.rows → j < shape.cols → t.column i j < (t.size (t.owner i j)).cols
  pub own : (r x y : ℕ) → r < t.count → x < (t.size r).rows → y < (t.size r).cols → t.owner (t.top r + x) (t.left r + y) ≡ r
  pub inside : (r x y : ℕ) → r < t.count → x < (t.size r).rows → y < (t.size r).cols → (t.top r + x < shape.rows) × (t.left r + y < shape.cols)

-- the tile that an entry is in
abbrev pub owner_of : Tiles → Entry → ℕ
owner_of t e = t.owner e.row e.column

-- an entry with its place in its tile
abbrev pub moved : Tiles → Entry → Entry
moved t e = record { row = t.row e.row e.column; column = t.column e.row e.column; value = e.value }

-- the entries of tile r, with their places in it
unfoldable pub entries_of : Tiles → ℕ → List Entry → List Entry
entries_of t r [] = []
entries_of t r (e ∷ es) = cond (owner_of t e == r) (moved t e ∷ entries_of t r es) (entries_of t r es)

-- the matrix of tile r
abbrev pub tile_of : Tiles → List Entry → ℕ → Sparse
tile_of t es r = record { shape = t.size r; entries = entries_of t r es }

-- if there are no entries, a tile has none
pub entries_of-none : (t : Tiles) (r : ℕ) → entries_of t r [] ≡ []
unfolding entries_of
entries_of-none t r = refl

-- one more entry, in this tile or in another
pub entries_of-own : (t : Tiles) (r : ℕ) (es : List Entry) (e : Entry) → owner_of t e ≡ r → entries_of t r (es ++ e ∷ []) ≡ entries_of t r es ++ moved t e ∷ []
unfolding entries_of
entries_of-own t r [] e h = let k : (owner_of t e == r) ≡ true = grind (arith, nat_tests) in rw k refl
entries_of-own t r (d ∷ es) e h = elim (owner_of t d == r) as (λ b. cond b (moved t d ∷ entries_of t r (es ++ e ∷ [])) (entries_of t r (es ++ e ∷ [])) ≡ cond b (moved t d ∷ entries_of t r es) (entries_of t r es) ++ moved t e ∷ []) [
  | true ↦ ap (λ xs. moved t d ∷ xs) (entries_of-own t r es e h)
  | false ↦ entries_of-own t r es e h
]

-- an entry of another tile leaves the entries of this one
pub entries_of-other : (t : Tiles) (r : ℕ) (es : List Entry) (e : Entry) → owner_of t e ≢ r → entries_of t r (es ++ e ∷ []) ≡ entries_of t r es
unfolding entries_of
entries_of-other t r [] e h = let k : (owner_of t e == r) ≡ false = grind (arith, nat_tests) in rw k refl
entries_of-other t r (d ∷ es) e h = elim (owner_of t d == r) as (λ b. cond b (moved t d ∷ entries_of t r (es ++ e ∷ [])) (entries_of t r (es ++ e ∷ [])) ≡ cond b (moved t d ∷ entries_of t r es) (entries_of t r es)) [
  | true ↦ ap (λ xs. moved t d ∷ xs) (entries_of-other t r es e h)
  | false ↦ entries_of-other t r es e h
]

module _ (shape : Extent) (t : Tiles) (is : IsTiling shape t) where
  -- what holds of the entries of a tile
  pub entries_of-all : (P Q : Entry → Type 0) (r : ℕ) (es : List Entry) → ((e : Entry) → IsInside shape e → owner_of t e ≡ r → P e → Q (moved t e)) → All (IsInside shape) es → All P es → All Q (entries_of t r es)
  unfolding entries_of
  entries_of-all P Q r [] h k l = All-nil Q
  entries_of-all P Q r (e ∷ es) h k l =
      let rest = entries_of-all P Q r es h (All-tail (IsInside shape) e es k) (All-tail P e es l) in
      elim (owner_of t e == r) as (λ b. (owner_of t e == r) ≡ b → All Q (cond b (moved t e ∷ entries_of t r es) (entries_of t r es))) [
        | true ↦ λ o. All-cons Q (moved t e) (entries_of t r es) (h e (All-head (IsInside shape) e es k) (eqb-true (owner_of t e) r o) (All-head P e es l)) rest
        | false ↦ λ _. rest
      ] refl

  -- the order stays
  pub moved_before : (r : ℕ) (d e : Entry) → IsInside shape d → IsInside shape e → owner_of t d ≡ r → owner_of t e ≡ r → IsBefore d e → IsBefore (moved t d) (moved t e)
  moved_before r d e k l p q h =
      let a : t.top r + t.row d.row d.column ≡ d.row = rw p at (is.rows d.row d.column k.0 k.1) in
      let b : t.top r + t.row e.row e.column ≡ e.row = rw q at (is.rows e.row e.column l.0 l.1) in
      let c : t.left r + t.column d.row d.column ≡ d.column = rw p at (is.columns d.row d.column k.0 k.1) in
      let f : t.left r + t.column e.row e.column ≡ e.column = rw q at (is.columns e.row e.column l.0 l.1) in
      ⊎_elim (λ x. inl (omega arith)) (λ x. inr (omega arith, omega arith)) h

  -- an entry of a tile, with its place there, is inside the tile
  pub moved_inside : (r : ℕ) (e : Entry) → IsInside shape e → owner_of t e ≡ r → IsInside (t.size r) (moved t e)
  moved_inside r e k p = (rw p at (is.row_below e.row e.column k.0 k.1), rw p at (is.column_below e.row e.column k.0 k.1))

  -- all entries of a tile before one of its entries
  pub tile_before : (r : ℕ) (es : List Entry) (e : Entry) → All (IsInside shape) es → All (λ d. IsBefore d e) es → IsInside shape e → owner_of t e ≡ r → All (λ d. IsBefore d (moved t e)) (entries_of t r es)
  tile_before r es e k h l p = entries_of-all (λ d. IsBefore d e) (λ d. IsBefore d (moved t e)) r es (λ d i o b. moved_before r d e i l o p b) k h

  tile_ascends : (r : ℕ) (es : List Entry) → All (IsInside shape) es → AllPairs IsBefore es → AllPairs IsBefore (entries_of t r es)
  unfolding entries_of
  tile_ascends r [] k h = AllPairs-nil IsBefore
  tile_ascends r (e ∷ es) k h =
      let inside = All-tail (IsInside shape) e es k in
      let rest = tile_ascends r es inside (AllPairs-tail IsBefore e es h) in
      elim (owner_of t e == r) as (λ b. (owner_of t e == r) ≡ b → AllPairs IsBefore (cond b (moved t e ∷ entries_of t r es) (entries_of t r es))) [
        | true ↦ λ o. AllPairs-cons IsBefore (moved t e) (entries_of t r es) (entries_of-all (IsBefore e) (IsBefore (moved t e)) r es (λ d i p b. moved_before r e d (All-head (IsInside shape) e es k) i (eqb-true (owner_of t e) r o) p b) inside (AllPairs-head IsBefore e es h)) rest
        | false ↦ λ _. rest
      ] refl

  -- each tile of a matrix is a matrix
  pub tile_matrix : (s : Arithmetic) (m : Sparse) (r : ℕ) → m.shape ≡ shape → IsMatrix s m → IsMatrix s (tile_of t m.entries r)
  tile_matrix s m r e h =
      let inside : All (IsInside shape) m.entries = rw e at h.inside in
      record {
        ascending = tile_ascends r m.entries inside h.ascending;
        inside = entries_of-all (IsInside shape) (IsInside (t.size r)) r m.entries (λ e i o _. moved_inside r e i o) inside inside;
        values = entries_of-all (λ e. IsValue s e.value) (λ e. IsValue s e.value) r m.entries (λ e i o v. v) inside h.values;
        not_zero = entries_of-all (λ e. e.value ≢ s.zero) (λ e. e.value ≢ s.zero) r m.entries (λ e i o v. v) inside h.not_zero;
      }

  same_place : (r x y : ℕ) (e : Entry) → IsInside shape e → owner_of t e ≡ r → is_at x y (moved t e) ≡ is_at (t.top r + x) (t.left r + y) e
  same_place r x y e k p =
      let a : t.top r + t.row e.row e.column ≡ e.row = rw p at (is.rows e.row e.column k.0 k.1) in
      let c : t.left r + t.column e.row e.column ≡ e.column = rw p at (is.columns e.row e.column k.0 k.1) in
      grind (arith, nat_tests)

  pub not_there : (r x y : ℕ) (e : Entry) → r < t.count → x < (t.size r).rows → y < (t.size r).cols → owner_of t e ≢ r → is_at (t.top r + x) (t.left r + y) e ≡ false
  not_there r x y e l m n ne =
      false_from_ne_true (is_at (t.top r + x) (t.left r + y) e) (λ h.
      let p = is_at-parts e (t.top r + x) (t.left r + y) h in
      ne ((λ i. t.owner (sym p.0 i) (sym p.1 i)) ∙ is.own r x y l m n))

  -- a tile has at each of its places the value that is there
  pub tile_value : (z r x y : ℕ) (es : List Entry) → r < t.count → x < (t.size r).rows → y < (t.size r).cols → All (IsInside shape) es → value_at z (entries_of t r es) x y ≡ value_at z es (t.top r + x) (t.left r + y)
  unfolding entries_of value_at
  tile_value z r x y [] l m n k = refl
  tile_value z r x y (e ∷ es) l m n k =
      let rest = tile_value z r x y es l m n (All-tail (IsInside shape) e es k) in
      elim (owner_of t e == r) as (λ b. (owner_of t e == r) ≡ b → value_at z (cond b (moved t e ∷ entries_of t r es) (entries_of t r es)) x y ≡ value_at z (e ∷ es) (t.top r + x) (t.left r + y)) [
        | true ↦ λ o. λ i. cond (same_place r x y e (All-head (IsInside shape) e es k) (eqb-true (owner_of t e) r o) i) e.value (rest i)
        | false ↦ λ o. rest ∙ sym (cond-false _ _ _ (not_there r x y e l m n (eqb-false (owner_of t e) r o)))
      ] refl

-- what holds of each entry of a tile holds of the entries that it has them from
pub entries_of_back : (t : Tiles) (r : ℕ) (es : List Entry) (Q : Entry → Type 0) → All Q (entries_of t r es) → All (λ e. owner_of t e ≡ r → Q (moved t e)) es
unfolding entries_of
entries_of_back t r [] Q h = All-nil (λ e. owner_of t e ≡ r → Q (moved t e))
entries_of_back t r (e ∷ es) Q h =
    elim (owner_of t e == r) as (λ b. (owner_of t e == r) ≡ b → All Q (cond b (moved t e ∷ entries_of t r es) (entries_of t r es)) → All (λ e. owner_of t e ≡ r → Q (moved t e)) (e ∷ es)) [
      | true ↦ λ _ k. All-cons (λ e. owner_of t e ≡ r → Q (moved t e)) e es (λ _. All-head Q (moved t e) (entries_of t r es) k) (entries_of_back t r es Q (All-tail Q (moved t e) (entries_of t r es) k))
      | false ↦ λ o k. All-cons (λ e. owner_of t e ≡ r → Q (moved t e)) e es (λ p. absurd (eqb-false (owner_of t e) r o p)) (entries_of_back t r es Q k)
    ] refl h
