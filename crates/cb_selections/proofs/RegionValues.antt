-- Values in a region.
use Rattle.std.proofs.Common.{◌≡◌, ℕ, sym, ap, ◌∙◌, ⊎_elim}
use Rattle.std.specs.Prelude.{Bool}
use Rattle.std.proofs.lemmas.Bool.{cases_eq}
use Rattle.cb_semirings.specs.Arithmetic.{Arithmetic}
use Rattle.cb_matrix.specs.Sparse.{Sparse, at}
use Rattle.cb_matrix.proofs.Made.{same_matrix_of}
use Rattle.cb_operations.specs.declared.regions.Region.{Region}
use Rattle.cb_operations.specs.Regions.{is_in, where_true}
use Rattle.cb_operations.specs.SelectionAnswers.{of_stored, replaced}
use Rattle.cb_operations.specs.SelectionAnswers.{selected}
use Rattle.cb_selections.proofs.DiagonalPlaces.{zero_where}
use Rattle.cb_elementwise.proofs.ReplacedColumn.{of_stored-some, of_stored-none}

-- a value replaced by itself or by zero
pub stored_where : (z : ℕ) (b : Bool) (x : ℕ) → of_stored z (where_true z b) x ≡ where_true z b x
stored_where z b x =
    ⊎_elim
    (λ (e : x ≡ z). of_stored-none z (where_true z b) x e ∙ sym (ap (where_true z b) e ∙ zero_where z b))
    (λ (n : x ≡ z → ⊥). of_stored-some z (where_true z b) x n)
    (cases_eq x z)

-- the entries in a region are those whose value is replaced by itself there, and by zero elsewhere
pub selected_is : (s : Arithmetic) (region : Region) (a : Sparse) → replaced s (λ i j x. where_true s.zero (is_in region i j) x) a ≡ selected s region a
selected_is s region a =
    same_matrix_of s a.shape (λ i j. of_stored s.zero (λ x. where_true s.zero (is_in region i j) x) (at s a i j)) (λ i j. where_true s.zero (is_in region i j) (at s a i j)) (λ i j _ _. stored_where s.zero (is_in region i j) (at s a i j))
