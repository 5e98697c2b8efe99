-- Products that halves add to one slot.
use Rattle.std.specs.Prelude.{◌≡◌, ◌≢◌, ℕ, true, List, [], ◌∷◌, length, take, None}
use Rattle.std.specs.List.{AllZip}
use Rattle.cb_matrix.specs.Sparse.{Sparse}
use Rattle.cb_plan.specs.declared.acts.Half.{Half}
use Rattle.cb_plan.specs.declared.acts.Half.TheVariants as half_is
use Rattle.cb_plan.specs.declared.stores.Slot.{Slot}
use Rattle.cb_plan.specs.declared.stores.TheConstants.{SLOTS}
use Rattle.cb_plan.specs.Checks.{all_below, operands_of}
use Rattle.cb_rank_work.specs.Slots.{adding}
use Rattle.cb_rank.specs.Halves.{first_lost}
use Rattle.cb_rank.specs.Ranks.{FitOperation}

-- a half adds the product of two slots to a third, which is neither of them
pub record AddsProduct (acc : ℕ) (half : Half) (p : ℕ × ℕ) : Type 0 where
  pub does : half ≡ half_is.Work (adding acc p)
  pub apart : (acc ≢ p.0) × (acc ≢ p.1)

-- the first of these halves add these products to a slot, one after the other
abbrev pub AddProducts : List Half → ℕ → List (ℕ × ℕ) → Type 0
AddProducts halves acc products = AllZip (AddsProduct acc) (take (length products) halves) products

-- the slots have what it takes to add the product of two of them to a third, which is neither of them; but some may be lost
pub record FitProduct (slots : List (Slot Sparse)) (acc : ℕ) (p : ℕ × ℕ) : Type 0 where
  pub exist : all_below SLOTS (acc ∷ p.0 ∷ p.1 ∷ []) ≡ true
  pub apart : (acc ≢ p.0) × (acc ≢ p.1)
  pub fits : FitOperation (adding acc p) slots

-- neither the factors of a product are lost nor the slot that it is added to
abbrev pub HasNoneLost : List (Slot Sparse) → ℕ → ℕ × ℕ → Type 0
HasNoneLost slots acc p = first_lost slots (operands_of (adding acc p)) ≡ None
