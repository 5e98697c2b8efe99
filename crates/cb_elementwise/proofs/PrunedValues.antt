-- The values of a pruned matrix.
use Rattle.std.proofs.Common.{◌≡◌, ℕ, true, false, cond, Bool, sym, refl, ap, ◌∙◌, ⊎_elim}
use Rattle.std.proofs.lemmas.Bool.{cases_eq}
use Rattle.cb_semirings.specs.Arithmetic.{Arithmetic}
use Rattle.cb_matrix.specs.declared.passing.Test.{Test}
use Rattle.cb_matrix.specs.Sparse.{Sparse, at}
use Rattle.cb_matrix.specs.Passing.{passes}
use Rattle.cb_matrix.specs.Operations.{pruned}
use Rattle.cb_matrix.proofs.Made.{same_matrix_of}
use Rattle.cb_elementwise.specs.RuleLaws.{unless_passes}
use Rattle.cb_operations.specs.SelectionAnswers.{of_stored, replaced}
use Rattle.cb_elementwise.proofs.ReplacedColumn.{of_stored-some, of_stored-none}

zero_either : (z : ℕ) (b : Bool) → cond b z z ≡ z
zero_either z true = refl
zero_either z false = refl

stored_unless : (z : ℕ) (test : Test) (x : ℕ) → of_stored z (unless_passes z test) x ≡ unless_passes z test x
stored_unless z test x =
    ⊎_elim
    (λ (e : x ≡ z). of_stored-none z (unless_passes z test) x e ∙ sym (ap (cond (passes test x) z) e ∙ zero_either z (passes test x)))
    (λ (n : x ≡ z → ⊥). of_stored-some z (unless_passes z test) x n)
    (cases_eq x z)

-- a matrix without the entries that pass is the one in which these are replaced by zero
pub pruned_is : (s : Arithmetic) (test : Test) (a : Sparse) → replaced s (λ i j x. unless_passes s.zero test x) a ≡ pruned s (passes test) a
pruned_is s test a =
    same_matrix_of s a.shape (λ i j. of_stored s.zero (λ x. unless_passes s.zero test x) (at s a i j)) (λ i j. cond (passes test (at s a i j)) s.zero (at s a i j)) (λ i j _ _. stored_unless s.zero test (at s a i j))
