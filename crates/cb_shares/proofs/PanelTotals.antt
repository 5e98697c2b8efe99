-- The sum of all values of a matrix in panels: the sums of its panels, added up.
use Rattle.std.proofs.Common.{◌≡◌, ◌≢◌, ℕ, ◌<◌, true, false, cond, List, [], ◌∷◌, ◌++◌, refl, sym, ap, ◌∙◌, subst, ⊎_elim, arith}
use Rattle.std.specs.Prelude.{AllPairs}
use Rattle.std.specs.List.{range_with_len}
use Rattle.std.proofs.lemmas.Bool.{cases_Bool, cases_eq, false_from_ne_true}
use Rattle.std.proofs.lemmas.List.Elements.{All-weaker}
use Rattle.cb_semirings.specs.Arithmetic.{Arithmetic, IsValue, IsSemiring}
use Rattle.cb_matrix.specs.declared.Entry.{Entry}
use Rattle.cb_matrix.specs.Sparse.{Sparse, Extent, IsMatrix, IsBefore, IsInside, is_at, at, value_at}
use Rattle.cb_matrix.proofs.Pairs.{All-front, AllPairs-head, AllPairs-tail}
use Rattle.cb_matrix.proofs.Places.{NoneAt, is_at-parts, value_at-none}
use Rattle.cb_matrix.proofs.Totals.{value_at-value, total_value, each_value, total-same, total-add, total-zero, add_zero}
use Rattle.cb_dcsc.proofs.Pushed.{All-back}
use Rattle.cb_layout.specs.Panels.{entries_of_panels, side_by_side}
use Rattle.cb_layout.proofs.PanelValues.{value_first, value_rest}
use Rattle.cb_reshape.specs.Sums.{column_total, matrix_total}

-- an entry at a place is before no entry at that place
not_again : (i j : ℕ) (e d : Entry) → is_at i j e ≡ true → IsBefore e d → is_at i j d ≡ false
not_again i j e d here before =
    false_from_ne_true (is_at i j d)
    (λ there.
    let p = is_at-parts e i j here in
    let q = is_at-parts d i j there in
    let p0 = p.0 in
    let p1 = p.1 in
    let q0 = q.0 in
    let q1 = q.1 in
    ⊎_elim (λ (l : e.column < d.column). absurd (omega arith)) (λ (l : (e.column ≡ d.column) × (e.row < d.row)). let m = l.1 in absurd (omega arith)) before)

-- entries that come after one at a place aren't there
none_after : (z i j : ℕ) (xs ys : List Entry) → AllPairs IsBefore (xs ++ ys) → value_at z xs i j ≢ z → NoneAt i j ys
unfolding value_at
none_after z i j [] ys up some = absurd (some refl)
none_after z i j (e ∷ es) ys up some =
    ⊎_elim
    (λ (t : is_at i j e ≡ true). All-weaker (IsBefore e) (λ d. is_at i j d ≡ false) (λ d before. not_again i j e d t before) ys (All-back (IsBefore e) es ys (AllPairs-head IsBefore e (es ++ ys) up)))
    (λ (f : is_at i j e ≡ false). none_after z i j es ys (AllPairs-tail IsBefore e (es ++ ys) up) (λ none. some (ap (λ b. cond b e.value (value_at z es i j)) f ∙ none)))
    (cases_Bool (is_at i j e))

module _ (s : Arithmetic) (laws : IsSemiring s) (shape : Extent) (xs ys : List Entry) (is : IsMatrix s (record { shape = shape; entries = xs ++ ys })) where
  abbrev pub front : Sparse
  front = record { shape = shape; entries = xs }

  abbrev back : Sparse
  back = record { shape = shape; entries = ys }

  abbrev both : Sparse
  both = record { shape = shape; entries = xs ++ ys }

  pub front_value : (i j : ℕ) → IsValue s (at s front i j)
  front_value i j = value_at-value s laws xs i j (All-front (λ (e : Entry). IsValue s e.value) xs ys is.values)

  pub back_value : (i j : ℕ) → IsValue s (at s back i j)
  back_value i j = value_at-value s laws ys i j (All-back (λ (e : Entry). IsValue s e.value) xs ys is.values)

  -- a place has the sum of what the two have there, of which one is zero
  pub at_sum : (i j : ℕ) → at s both i j ≡ s.add (at s front i j) (at s back i j)
  at_sum i j =
      ⊎_elim
      (λ (none : at s front i j ≡ s.zero).
      value_rest s.zero i j xs ys (All-front (λ (e : Entry). e.value ≢ s.zero) xs ys is.not_zero) none
      ∙ sym (laws.zero_add (at s back i j) (back_value i j))
      ∙ ap (λ x. s.add x (at s back i j)) (sym none))
      (λ (some : at s front i j ≡ s.zero → ⊥).
      let none : at s back i j ≡ s.zero = value_at-none s.zero ys i j (none_after s.zero i j xs ys is.ascending some) in
      value_first s.zero i j xs ys some
      ∙ sym (add_zero s laws (at s front i j) (front_value i j))
      ∙ ap (s.add (at s front i j)) (sym none))
      (cases_eq (at s front i j) s.zero)

  column_sum : (j : ℕ) → column_total s both j ≡ s.add (column_total s front j) (column_total s back j)
  column_sum j =
      total-same s laws (λ i. at s both i j) (λ i. s.add (at s front i j) (at s back i j)) (λ i. at_sum i j) (range_with_len 0 shape.rows)
      ∙ total-add s laws (λ i. at s front i j) (λ i. at s back i j) (λ i. front_value i j) (λ i. back_value i j) (range_with_len 0 shape.rows)

  column_value : (m : Sparse) → ((i j : ℕ) → IsValue s (at s m i j)) → (j : ℕ) → IsValue s (column_total s m j)
  column_value m values j = total_value s laws _ (each_value s laws (λ i. at s m i j) (λ i. values i j) (range_with_len 0 m.shape.rows))

  -- so has the sum of all values
  pub totals : matrix_total s both ≡ s.add (matrix_total s front) (matrix_total s back)
  totals =
      total-same s laws (column_total s both) (λ j. s.add (column_total s front j) (column_total s back j)) column_sum (range_with_len 0 shape.cols)
      ∙ total-add s laws (column_total s front) (column_total s back) (column_value front front_value) (column_value back back_value) (range_with_len 0 shape.cols)

  pub front_total : IsValue s (matrix_total s front)
  front_total = total_value s laws _ (each_value s laws (column_total s front) (column_value front front_value) (range_with_len 0 shape.cols))

  pub back_total : IsValue s (matrix_total s back)
  back_total = total_value s laws _ (each_value s laws (column_total s back) (column_value back back_value) (range_with_len 0 shape.cols))

-- the later ones of some elements are in the order of all
later : {X : Type 0} (R : X → X → Type 0) (xs ys : List X) → AllPairs R (xs ++ ys) → AllPairs R ys
later R [] ys h = h
later R (x ∷ xs) ys h = later R xs ys (AllPairs-tail R x (xs ++ ys) h)

module _ (s : Arithmetic) (shape : Extent) (panel : Sparse) (rest : List Sparse) (is : IsMatrix s (side_by_side shape (panel ∷ rest))) where
  -- the panels after the first are a matrix
  pub rest_matrix : IsMatrix s (side_by_side shape rest)
  rest_matrix = record {
    ascending = later IsBefore panel.entries (entries_of_panels rest) is.ascending;
    inside = All-back (IsInside shape) panel.entries (entries_of_panels rest) is.inside;
    values = All-back (λ (e : Entry). IsValue s e.value) panel.entries (entries_of_panels rest) is.values;
    not_zero = All-back (λ (e : Entry). e.value ≢ s.zero) panel.entries (entries_of_panels rest) is.not_zero;
  }

module _ (s : Arithmetic) (laws : IsSemiring s) (shape : Extent) where
  module _ (panel : Sparse) (rest : List Sparse) (is : IsMatrix s (side_by_side shape (panel ∷ rest))) (same : panel.shape ≡ shape) where
    own_shape : matrix_total s panel ≡ matrix_total s (front s laws shape panel.entries (entries_of_panels rest) is)
    own_shape i = matrix_total s (record { shape = same i; entries = panel.entries })

    -- the sum of all is that of the first and that of the others
    pub panels_total : matrix_total s (side_by_side shape (panel ∷ rest)) ≡ s.add (matrix_total s panel) (matrix_total s (side_by_side shape rest))
    panels_total =
        totals s laws shape panel.entries (entries_of_panels rest) is
        ∙ ap (λ x. s.add x (matrix_total s (side_by_side shape rest))) (sym own_shape)

    pub panel_value : IsValue s (matrix_total s panel)
    panel_value = subst (IsValue s) (sym own_shape) (front_total s laws shape panel.entries (entries_of_panels rest) is)

    -- with the first, the sum so far grows by it
    pub more_total : (sum : ℕ) → IsValue s sum → s.add (s.add sum (matrix_total s panel)) (matrix_total s (side_by_side shape rest)) ≡ s.add sum (matrix_total s (side_by_side shape (panel ∷ rest)))
    more_total sum value =
        laws.add_assoc sum (matrix_total s panel) (matrix_total s (side_by_side shape rest)) value panel_value (back_total s laws shape panel.entries (entries_of_panels rest) is)
        ∙ ap (s.add sum) (sym panels_total)

  -- without panels nothing is left
  pub no_total : (sum : ℕ) → IsValue s sum → sum ≡ s.add sum (matrix_total s (side_by_side shape []))
  unfolding value_at
  no_total sum value =
      let none : matrix_total s (side_by_side shape []) ≡ s.zero =
      total-zero s laws (column_total s (side_by_side shape [])) 0 shape.cols (λ j _. total-zero s laws (λ i. at s (side_by_side shape []) i j) 0 shape.rows (λ i _. refl)) in
      sym (add_zero s laws sum value) ∙ ap (s.add sum) (sym none)
