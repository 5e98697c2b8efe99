-- A product added in place: the slot of the sum is emptied, and filled again.
use Rattle.std.proofs.Common.{◌≡◌, ◌≢◌, ℕ, List, get_or, refl, sym, ap, ◌∙◌}
use Rattle.std.specs.Prelude.{Some, slice_set}
use Rattle.std.proofs.lemmas.List.{get_or-set_other, set-set, set-get_or}
use Rattle.cb_semirings.specs.Arithmetic.{Arithmetic}
use Rattle.cb_matrix.specs.Sparse.{Sparse}
use Rattle.cb_matrix.specs.Values.{product}
use Rattle.cb_matrix.specs.Operations.{sum_of}
use Rattle.cb_plan.specs.declared.stores.Slot.{Slot}
use Rattle.cb_plan.specs.declared.stores.Slot.TheVariants.{Empty, Sheet}
use Rattle.cb_plan.specs.Meaning.{three}
use Rattle.cb_plan.specs.Algebras.{matrices}
use Rattle.cb_plan.specs.Stores.{sheet_of, slot_of, sheets_in}

others_stay : {M : Type 0} (xs : List (Slot M)) (n k : ℕ) (x : Slot M) → n ≢ k → sheets_in (slice_set xs n x) k ≡ sheets_in xs k
others_stay xs n k x ne = ap sheet_of (get_or-set_other xs n k x Empty (λ e. ne (sym e)))

-- what was taken out comes back
pub put_back : {M : Type 0} (xs ys zs : List (Slot M)) (n : ℕ) (x y : Slot M) → x ≡ get_or xs n Empty → ys ≡ slice_set xs n Empty → zs ≡ slice_set ys n y → y ≡ x → zs ≡ xs
put_back xs ys zs n x y was left put same =
    put ∙ ap (λ l. slice_set l n y) left ∙ set-set xs n Empty y ∙ ap (slice_set xs n) (same ∙ was) ∙ set-get_or xs n Empty

-- the sum of a product and what was taken out is put back
pub accumulated : (s : Arithmetic) (xs ys zs : List (Slot Sparse)) (a b acc : ℕ) (left right sum new : Sparse) → acc ≢ a → acc ≢ b → Sheet sum ≡ get_or xs acc Empty → ys ≡ slice_set xs acc Empty →
    sheets_in ys a ≡ Some left → sheets_in ys b ≡ Some right → new ≡ sum_of s sum (product s left right) → zs ≡ slice_set ys acc (Sheet new) →
    zs ≡ slice_set xs acc (slot_of (three (matrices s).mul_add (sheets_in xs a) (sheets_in xs b) (sheets_in xs acc)))
accumulated s xs ys zs a b acc left right sum new ne_left ne_right was left_out is_left is_right is_new put =
    let e : sheets_in xs a ≡ Some left = sym (others_stay xs acc a Empty ne_left) ∙ ap (λ l. sheets_in l a) (sym left_out) ∙ is_left in
    let f : sheets_in xs b ≡ Some right = sym (others_stay xs acc b Empty ne_right) ∙ ap (λ l. sheets_in l b) (sym left_out) ∙ is_right in
    let g : sheets_in xs acc ≡ Some sum = ap sheet_of (sym was) in
    put ∙ ap (λ l. slice_set l acc (Sheet new)) left_out ∙ set-set xs acc Empty (Sheet new) ∙ ap (λ m. slice_set xs acc (Sheet m)) is_new ∙ rw (e, f, g) refl
