-- Panels that are appended to others, and panels that are joined in one block.
use Rattle.std.proofs.Common.{◌≡◌, ◌<◌, ◌≤◌, List, ◌∷◌, ◌++◌, length, length-append, append_assoc, sym, ap, subst, ◌∙◌, arith}
use Rattle.std.proofs.lemmas.List.Concat.{flat_map-append}
use Rattle.std.proofs.lemmas.List.Elements.{All-append, All-weaker}
use Rattle.cb_semirings.specs.Arithmetic.{Arithmetic}
use Rattle.cb_matrix.specs.Sparse.{Extent, Sparse, IsMatrix}
use Rattle.cb_dcsc.specs.Columns.{with_entries}
use Rattle.cb_dcsc.proofs.Appended.{matrix_front}
use Rattle.cb_layout.specs.Panels.{entries_of_panels, side_by_side, ArePanels}
use Rattle.cb_layout.proofs.EntryCounts.{entries_below}

-- the entries of two lists of panels
pub entries_of_both : (xs ys : List Sparse) → entries_of_panels (xs ++ ys) ≡ entries_of_panels xs ++ entries_of_panels ys
entries_of_both xs ys = flat_map-append (λ (panel : Sparse). panel.entries) xs ys

-- a matrix has fewer than 2^62 entries
pub few_entries : (s : Arithmetic) (m : Sparse) → m.shape.rows ≤ 2147483647 → m.shape.cols ≤ 2147483647 → IsMatrix s m → length m.entries < 4611686018427387904
few_entries s m rows cols is = entries_below m.shape m.entries rows cols is.inside is.ascending

-- panels with those of another matrix after them
module _ (s : Arithmetic) (shape shape' : Extent) (xs ys : List Sparse) (m n : Sparse) (are : ArePanels s shape xs) (others : ArePanels s shape' ys) (own : side_by_side shape xs ≡ m) (other : side_by_side shape' ys ≡ n) (same : n.shape ≡ m.shape) where
  same_shape : shape' ≡ shape
  same_shape = ap (λ (k : Sparse). k.shape) other ∙ same ∙ sym (ap (λ (k : Sparse). k.shape) own)

  -- are those of the two matrices joined
  pub both_are : side_by_side shape (xs ++ ys) ≡ with_entries m n.entries
  both_are =
      let entries : entries_of_panels (xs ++ ys) ≡ m.entries ++ n.entries = entries_of_both xs ys ∙ (λ t. (own t).entries ++ (other t).entries) in
      λ t. record { shape = (own t).shape; entries = entries t }

  -- and are panels if these are a matrix
  pub are_both : IsMatrix s (with_entries m n.entries) → ArePanels s shape (xs ++ ys)
  are_both is = record {
    some = let l = length-append xs ys in let some = are.some in omega arith;
    shapes = All-append (λ (panel : Sparse). panel.shape ≡ shape) xs ys are.shapes (All-weaker (λ (panel : Sparse). panel.shape ≡ shape') (λ panel. panel.shape ≡ shape) (λ panel e. e ∙ same_shape) ys others.shapes);
    matrix = subst (λ (k : Sparse). IsMatrix s k) (sym both_are) is;
  }

-- a panel is joined to a block, and others are left
module _ (s : Arithmetic) (block panel whole : Sparse) (rest left : List Sparse) (next : left ≡ panel ∷ rest) (all : with_entries block (entries_of_panels left) ≡ whole) where
  pub joined_one : with_entries (with_entries block panel.entries) (entries_of_panels rest) ≡ whole
  joined_one =
      (λ t. record { shape = block.shape; entries = append_assoc block.entries panel.entries (entries_of_panels rest) t })
      ∙ ap (λ ps. with_entries block (entries_of_panels ps)) (sym next)
      ∙ all

  -- so far they are a matrix, if they all are one
  pub joined_is_matrix : IsMatrix s whole → IsMatrix s (with_entries block panel.entries)
  joined_is_matrix is = matrix_front s block.shape (block.entries ++ panel.entries) (entries_of_panels rest) (subst (λ (m : Sparse). IsMatrix s m) (sym joined_one) is)

  pub joined_more : (more : Sparse) → more ≡ with_entries block panel.entries → with_entries more (entries_of_panels rest) ≡ whole
  joined_more more e = (λ t. with_entries (e t) (entries_of_panels rest)) ∙ joined_one
