-- Some columns of a matrix in panels: those of its first panel, then those of the next, and so on.
use Rattle.std.proofs.Common.{◌≡◌, ℕ, List, [], ◌∷◌, ◌++◌, append_assoc, append-nil, sym, ap, subst, ◌∙◌}
use Rattle.std.specs.Prelude.{All}
use Rattle.std.proofs.lemmas.List.Elements.{filter-append, All-head}
use Rattle.cb_semirings.specs.Arithmetic.{Arithmetic}
use Rattle.cb_matrix.specs.declared.Entry.{Entry}
use Rattle.cb_matrix.specs.Sparse.{Sparse, IsMatrix}
use Rattle.cb_dcsc.specs.Columns.{with_entries}
use Rattle.cb_dcsc.proofs.Appended.{matrix_front}
use Rattle.cb_layout.specs.Panels.{entries_of_panels, side_by_side}
use Rattle.cb_product.specs.InColumns.{is_among, only_columns}
use Rattle.cb_product.proofs.OnlyColumns.{only_matrix}
use Rattle.cb_shares.specs.Shares.{among_entries}

module _ (s : Arithmetic) (cs : List ℕ) (made panel more whole : Sparse) (rest left : List Sparse) (next : left ≡ panel ∷ rest) (is_more : more ≡ only_columns cs panel) (all : with_entries made (among_entries cs (entries_of_panels left)) ≡ whole) where
  -- the columns of a panel are appended, and those of others are left
  pub more_joined : with_entries (with_entries made more.entries) (among_entries cs (entries_of_panels rest)) ≡ whole
  more_joined =
      let both : among_entries cs (panel.entries ++ entries_of_panels rest) ≡ among_entries cs panel.entries ++ among_entries cs (entries_of_panels rest) = filter-append (λ (e : Entry). is_among cs e.column) panel.entries (entries_of_panels rest) in
      (λ t. with_entries (with_entries made (is_more t).entries) (among_entries cs (entries_of_panels rest)))
      ∙ (λ t. record { shape = made.shape; entries = append_assoc made.entries (among_entries cs panel.entries) (among_entries cs (entries_of_panels rest)) t })
      ∙ (λ t. with_entries made (sym both t))
      ∙ ap (λ ps. with_entries made (among_entries cs (entries_of_panels ps))) (sym next)
      ∙ all

  -- so far they are a matrix, if they all are one
  pub more_matrix : IsMatrix s whole → IsMatrix s (with_entries made more.entries)
  more_matrix is = matrix_front s made.shape (made.entries ++ more.entries) (among_entries cs (entries_of_panels rest)) (subst (λ (m : Sparse). IsMatrix s m) (sym more_joined) is)

-- all panels of a matrix: the columns of the first, and those of the others after them
module _ (s : Arithmetic) (cs : List ℕ) (m front made : Sparse) (others : List Sparse) (panels : side_by_side m.shape (front ∷ others) ≡ m) (shapes : All (λ (p : Sparse). p.shape ≡ m.shape) (front ∷ others)) (is_made : made ≡ only_columns cs front) where
  pub front_shape : front.shape ≡ m.shape
  front_shape = All-head (λ (p : Sparse). p.shape ≡ m.shape) front others shapes

  pub all_joined : with_entries made (among_entries cs (entries_of_panels others)) ≡ only_columns cs m
  all_joined =
      let both : among_entries cs (front.entries ++ entries_of_panels others) ≡ among_entries cs front.entries ++ among_entries cs (entries_of_panels others) = filter-append (λ (e : Entry). is_among cs e.column) front.entries (entries_of_panels others) in
      (λ t. with_entries (is_made t) (among_entries cs (entries_of_panels others)))
      ∙ (λ t. record { shape = front_shape t; entries = sym both t })
      ∙ ap (only_columns cs) panels

  pub all_matrix : IsMatrix s m → IsMatrix s (with_entries made (among_entries cs (entries_of_panels others)))
  all_matrix is = subst (λ (n : Sparse). IsMatrix s n) (sym all_joined) (only_matrix s cs m is)

-- a single panel is the matrix
pub one_panel : (m front : Sparse) (others : List Sparse) → side_by_side m.shape (front ∷ others) ≡ m → All (λ (p : Sparse). p.shape ≡ m.shape) (front ∷ others) → others ≡ [] → front ≡ m
one_panel m front others panels shapes none =
    let shape : front.shape ≡ m.shape = All-head (λ (p : Sparse). p.shape ≡ m.shape) front others shapes in
    (λ t. record { shape = shape t; entries = sym (append-nil front.entries) t })
    ∙ ap (λ ps. side_by_side m.shape (front ∷ ps)) (sym none)
    ∙ panels
