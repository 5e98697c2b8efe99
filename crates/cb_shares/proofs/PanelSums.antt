-- The sum of all values of a matrix in some columns, panel by panel.
use Rattle.std.proofs.Common.{◌≡◌, ℕ, List, ◌∷◌, ◌++◌, sym, ap, subst, ◌∙◌}
use Rattle.std.proofs.lemmas.List.Elements.{filter-append}
use Rattle.cb_semirings.specs.Arithmetic.{Arithmetic, IsValue, IsSemiring}
use Rattle.cb_matrix.specs.declared.Entry.{Entry}
use Rattle.cb_matrix.specs.Sparse.{Sparse, Extent, IsMatrix}
use Rattle.cb_layout.specs.Panels.{entries_of_panels, side_by_side}
use Rattle.cb_product.specs.InColumns.{is_among, only_columns}
use Rattle.cb_product.proofs.OnlyColumns.{only_matrix}
use Rattle.cb_reshape.specs.Sums.{matrix_total}
use Rattle.cb_shares.specs.Shares.{among_entries}
use Rattle.cb_shares.proofs.PanelTotals.{totals, front_total, back_total}

module _ (s : Arithmetic) (laws : IsSemiring s) (shape : Extent) (cs : List ℕ) (panel : Sparse) (rest : List Sparse) (is : IsMatrix s (side_by_side shape (panel ∷ rest))) (same : panel.shape ≡ shape) where
  abbrev xs : List Entry
  xs = among_entries cs panel.entries

  abbrev ys : List Entry
  ys = among_entries cs (entries_of_panels rest)

  both : only_columns cs (side_by_side shape (panel ∷ rest)) ≡ record { shape = shape; entries = xs ++ ys }
  both i = record { shape = shape; entries = filter-append (λ (e : Entry). is_among cs e.column) panel.entries (entries_of_panels rest) i }

  is_both : IsMatrix s (record { shape = shape; entries = xs ++ ys })
  is_both = subst (λ (m : Sparse). IsMatrix s m) both (only_matrix s cs (side_by_side shape (panel ∷ rest)) is)

  own : matrix_total s (only_columns cs panel) ≡ matrix_total s (record { shape = shape; entries = xs })
  own i = matrix_total s (record { shape = same i; entries = xs })

  -- that of all is that of the first and that of the others
  pub some_total : matrix_total s (only_columns cs (side_by_side shape (panel ∷ rest))) ≡ s.add (matrix_total s (only_columns cs panel)) (matrix_total s (only_columns cs (side_by_side shape rest)))
  some_total = ap (matrix_total s) both ∙ totals s laws shape xs ys is_both ∙ ap (λ x. s.add x (matrix_total s (only_columns cs (side_by_side shape rest)))) (sym own)

  pub some_value : IsValue s (matrix_total s (only_columns cs panel))
  some_value = subst (IsValue s) (sym own) (front_total s laws shape xs ys is_both)

  -- with the first, the sum so far grows by it
  pub more_some : (sum : ℕ) → IsValue s sum → s.add (s.add sum (matrix_total s (only_columns cs panel))) (matrix_total s (only_columns cs (side_by_side shape rest))) ≡ s.add sum (matrix_total s (only_columns cs (side_by_side shape (panel ∷ rest))))
  more_some sum value =
      laws.add_assoc sum (matrix_total s (only_columns cs panel)) (matrix_total s (only_columns cs (side_by_side shape rest))) value some_value (back_total s laws shape xs ys is_both)
      ∙ ap (s.add sum) (sym some_total)
