-- Products of slots, made in parts of their columns.
use Rattle.std.proofs.Common.{◌≡◌, ℕ, ◌<◌, Result, Ok, Err, List, [], ◌∷◌, ◌++◌, sym, ap, subst, ◌∙◌}
use Rattle.std.specs.Prelude.{IfOk, OnOk, All, AllPairs}
use Rattle.std.specs.List.{AllZip}
use Rattle.std.proofs.lemmas.List.Elements.{All-head, All-tail}
use Rattle.std.proofs.lemmas.Option.{same_Some}
use Rattle.cb_semirings.specs.Arithmetic.{Arithmetic, IsSemiring}
use Rattle.cb_matrix.specs.Sparse.{Sparse, IsMatrix}
use Rattle.cb_dcsc.specs.Columns.{with_entries}
use Rattle.cb_plan.specs.declared.stores.Slot.{Slot}
use Rattle.cb_product.specs.InColumns.{only_columns}
use Rattle.cb_product.specs.SeveralProducts.{AreColumnsOf, AreMatrices, plus_products}
use Rattle.cb_product.proofs.ColumnParts.{two_matrix, two_joined}
use Rattle.cb_product.proofs.OnlyColumns.{only_all}
use Rattle.cb_product.proofs.SeveralProducts.{pairs_matrix, plus_in}
use Rattle.cb_rank_work.specs.FactorSlots.{AreToBeMade, HasColumnsOf, HoldPair, HoldProduct, IsSumWith}
use Rattle.cb_rank_work.proofs.ProductsAtOnce.{all_make}

-- slots hold one list of pairs
pub held_same : (slots : List (Slot Sparse)) (ps : List (ℕ × ℕ)) (fs gs : List (Sparse × Sparse)) → AllZip (HoldPair slots) ps fs → AllZip (HoldPair slots) ps gs → fs ≡ gs
held_same slots [] [] [] first second = λ i. []
held_same slots [] [] (g ∷ gs) first second = absurd second
held_same slots [] (f ∷ fs) gs first second = absurd first
held_same slots (p ∷ ps) [] gs first second = absurd first
held_same slots (p ∷ ps) (f ∷ fs) [] first second = absurd second
held_same slots (p ∷ ps) (f ∷ fs) (g ∷ gs) first second =
    let left : f.0 ≡ g.0 = same_Some f.0 g.0 (sym first.0.0 ∙ second.0.0) in
    let right : f.1 ≡ g.1 = same_Some f.1 g.1 (sym first.0.1 ∙ second.0.1) in
    let rest = held_same slots ps fs gs first.1 second.1 in
    λ i. (left i, right i) ∷ rest i

-- and there is one
held_pairs : (slots : List (Slot Sparse)) (sum : Sparse) (ps : List (ℕ × ℕ)) → All (HoldProduct slots sum.shape) ps → (pairs : List (Sparse × Sparse)) × AllZip (HoldPair slots) ps pairs
held_pairs slots sum [] hold = ([], tt)
held_pairs slots sum (p ∷ ps) hold =
    let it = All-head (HoldProduct slots sum.shape) p ps hold in
    let rest = held_pairs slots sum ps (All-tail (HoldProduct slots sum.shape) p ps hold) in
    (it.pair ∷ rest.0, (it.held, rest.1))

-- a part that is made of the pairs that the slots hold
pub part_made : (s : Arithmetic) (slots : List (Slot Sparse)) (sum : Sparse) (ps : List (ℕ × ℕ)) (cs : List ℕ) (fs : List (Sparse × Sparse)) (m : Sparse)
    → AllZip (HoldPair slots) ps fs → m ≡ only_columns cs (plus_products s sum fs) → All (AreMatrices s) fs → HasColumnsOf s slots sum ps cs m
part_made s slots sum ps cs fs m held made matrices = record {
  made = λ gs also. made ∙ ap (λ hs. only_columns cs (plus_products s sum hs)) (held_same slots ps fs gs held also);
  matrices = λ gs also. subst (All (AreMatrices s)) (held_same slots ps fs gs held also) matrices;
}

pub made_part : {E : Type 0} (s : Arithmetic) (slots : List (Slot Sparse)) (sum : Sparse) (ps : List (ℕ × ℕ)) (cs : List ℕ) (fs : List (Sparse × Sparse)) (result : Result Sparse E)
    → AllZip (HoldPair slots) ps fs → IfOk result (λ m. m ≡ only_columns cs (plus_products s sum fs)) → OnOk result (All (AreMatrices s) fs) → IfOk result (HasColumnsOf s slots sum ps cs)
made_part s slots sum ps cs fs (Ok m) held made matrices = part_made s slots sum ps cs fs m held made matrices
made_part s slots sum ps cs fs (Err e) held made matrices = tt

module _ (s : Arithmetic) (laws : IsSemiring s) (slots : List (Slot Sparse)) (sum : Sparse) (is : IsMatrix s sum) (ps : List (ℕ × ℕ)) (zs : List ℕ) (to : AreToBeMade slots sum ps zs) where
  whole_matrix : (pairs : List (Sparse × Sparse)) → AllZip (HoldPair slots) ps pairs → All (AreMatrices s) pairs → IsMatrix s (plus_products s sum pairs)
  whole_matrix pairs held matrices = pairs_matrix s laws sum pairs is matrices (all_make slots sum.shape ps pairs to.hold held)

  module _ (xs ys : List ℕ) (all : zs ≡ xs ++ ys) (front back : Sparse) (first : HasColumnsOf s slots sum ps xs front) (last : HasColumnsOf s slots sum ps ys back) where
    up : AllPairs (λ c d. c < d) (xs ++ ys)
    up = subst (AllPairs (λ c d. c < d)) all to.ascending

    -- the two parts have one shape
    pub parts_shape : back.shape ≡ front.shape
    parts_shape =
        let here = held_pairs slots sum ps to.hold in
        ap (λ (m : Sparse). m.shape) (last.made here.0 here.1) ∙ sym (ap (λ (m : Sparse). m.shape) (first.made here.0 here.1))

    -- one appended to the other, they are a matrix
    pub parts_are_matrix : IsMatrix s (with_entries front back.entries)
    parts_are_matrix =
        let here = held_pairs slots sum ps to.hold in
        two_matrix s laws (plus_products s sum here.0) (whole_matrix here.0 here.1 (first.matrices here.0 here.1)) xs ys up zs all front back (first.made here.0 here.1) (last.made here.0 here.1)

    -- which has the columns of both
    pub parts_made : HasColumnsOf s slots sum ps zs (with_entries front back.entries)
    parts_made = record {
      made = λ pairs held. two_joined s laws (plus_products s sum pairs) (whole_matrix pairs held (first.matrices pairs held)) xs ys up zs all front back (first.made pairs held) (last.made pairs held);
      matrices = first.matrices;
    }

  -- with all columns that have entries, it is the sum
  pub whole_made : (fs : List (Sparse × Sparse)) (m : Sparse) → AllZip (HoldPair slots) ps fs → AreColumnsOf zs sum fs → HasColumnsOf s slots sum ps zs m → IsSumWith s slots sum ps m
  whole_made fs m held columns part =
      let shapes = all_make slots sum.shape ps fs to.hold held in
      (fs, held, part.made fs held ∙ only_all zs (plus_products s sum fs) (plus_in s laws zs sum fs is (part.matrices fs held) shapes columns.own columns.rights))

  pub made_whole : {E : Type 0} (fs : List (Sparse × Sparse)) (result : Result Sparse E) → AllZip (HoldPair slots) ps fs → AreColumnsOf zs sum fs → IfOk result (HasColumnsOf s slots sum ps zs) → IfOk result (IsSumWith s slots sum ps)
  made_whole fs (Ok m) held columns part = whole_made fs m held columns part
  made_whole fs (Err e) held columns part = tt
