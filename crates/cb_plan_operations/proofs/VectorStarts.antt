-- What stands before the product by a spread vector: each rank's part of the matrix, and its piece of the vector.
use Rattle.std.proofs.Common.{◌≡◌, ◌≢◌, ℕ, ◌+◌, ◌*◌, ◌/◌, ◌%◌, ◌<◌, ◌≤◌, true, false, [], ◌∷◌, inr, refl, ◌∙◌, arith}
use Rattle.std.specs.Prelude.{Option, Some, None, ◌==◌, if◌then◌else◌, All, AllPairs}
use Rattle.std.proofs.lemmas.Bool.Decides.{nat_tests}
use Rattle.std.proofs.lemmas.List.Elements.{All-nil, All-cons}
use Rattle.cb_matrix.specs.Sparse.{Extent}
use Rattle.cb_matrix.proofs.Pairs.{AllPairs-nil, AllPairs-cons}
use Rattle.cb_plan.specs.declared.acts.Start.{Start}
use Rattle.cb_plan.specs.Meaning.{State}
use Rattle.cb_plan.specs.Checks.{none_shut, started, started_from}
use Rattle.cb_plan.specs.Plans.{IsElsewhere}
use Rattle.cb_grid.specs.declared.TheConstants.{LARGEST_SIDE}
use Rattle.cb_grid.specs.Parts.{part_shape}
use Rattle.cb_grid.specs.Pieces.{piece_shape}
use Rattle.cb_grid.proofs.Parts.{rank_below}
use Rattle.cb_plan_parts.specs.PlanParts.{part_start_at}
use Rattle.cb_plan_parts.specs.Flows.{Flows}
use Rattle.cb_plan_parts.proofs.Grid.{at_place}
use Rattle.cb_plan_parts.proofs.Starts.{starts_there, starts_elsewhere, all_starts, starts_once}
use Rattle.cb_plan_operations.specs.VectorPlans.{column, input_start_at, vector_starts_at, vector_starts, spread_product_acts}
use Rattle.cb_plan_operations.proofs.VectorFlow.{spread_flow}

module _ (q : ℕ) (shape : Extent) where
  -- what a slot of a rank has after its starts, if it had x before
  abbrev pub held : ℕ → ℕ → Option Extent → Option Extent
  held r n x = if 1 == n then Some (piece_shape q (column shape.cols) (r % q) (r / q)) else (if 0 == n then Some (part_shape q shape (r / q) (r % q)) else x)

  own_alone : (k r n : ℕ) (state : State Extent) → (k == r) ≡ false → started_from (vector_starts_at q shape k) state r n ≡ state r n
  own_alone k r n state f = rw f refl

  own_set : (k n : ℕ) (state : State Extent) → started_from (vector_starts_at q shape k) state k n ≡ held k n (state k n)
  own_set k n state = let e : (k == k) ≡ true = grind (arith, nat_tests) in rw e refl

  -- what a rank has at the start
  pub vector_starts_there : (r n : ℕ) → r < q * q → started (vector_starts q shape) r n ≡ held r n None
  vector_starts_there r n l = starts_there (vector_starts_at q shape) held own_alone own_set 0 (q * q) (λ _ _. None) r n (omega arith) (omega arith)

  -- there are no other ranks
  pub vector_starts_elsewhere : (r n : ℕ) → q * q ≤ r → started (vector_starts q shape) r n ≡ None
  vector_starts_elsewhere r n l = starts_elsewhere (vector_starts_at q shape) held own_alone own_set 0 (q * q) (λ _ _. None) r n (λ k _ m. let ne : k ≢ r = omega arith in ne)

  has_part : (i j : ℕ) → i < q → j < q → started (vector_starts q shape) (i * q + j) 0 ≡ Some (part_shape q shape i j)
  has_part i j l m = vector_starts_there (i * q + j) 0 (rank_below q i j l m) ∙ at_place (λ x y. Some (part_shape q shape x y)) q i j m

  has_piece : (t j : ℕ) → t < q → j < q → started (vector_starts q shape) (t * q + j) 1 ≡ Some (piece_shape q (column shape.cols) j t)
  has_piece t j l m = vector_starts_there (t * q + j) 1 (rank_below q t j l m) ∙ at_place (λ x y. Some (piece_shape q (column shape.cols) y x)) q t j m

  abbrev Exists : Start → Type 0
  Exists s = (s.rank < q * q) × (s.slot < 256)

  -- the starts name slots that exist, each once
  pub vector_starts_exist : All Exists (vector_starts q shape)
  vector_starts_exist = all_starts Exists (vector_starts_at q shape) 0 (q * q) (λ r _ l.
      let h : r < q * q = omega arith in
      All-cons Exists (part_start_at q 0 r shape) (input_start_at q 1 r shape ∷ []) (h, omega arith)
      (All-cons Exists (input_start_at q 1 r shape) [] (h, omega arith) (All-nil Exists)))

  -- no two of the starts name one slot
  pub vector_starts_once : AllPairs IsElsewhere (vector_starts q shape)
  vector_starts_once =
      starts_once (vector_starts_at q shape)
      (λ r. All-cons (λ (s : Start). s.rank ≡ r) (part_start_at q 0 r shape) (input_start_at q 1 r shape ∷ []) refl
      (All-cons (λ (s : Start). s.rank ≡ r) (input_start_at q 1 r shape) [] refl (All-nil (λ (s : Start). s.rank ≡ r))))
      (λ r.
      let first = part_start_at q 0 r shape in
      let second = input_start_at q 1 r shape in
      let ne : 0 ≢ 1 = omega arith in
      AllPairs-cons IsElsewhere first (second ∷ []) (All-cons (IsElsewhere first) second [] (inr ne) (All-nil (IsElsewhere first)))
      (AllPairs-cons IsElsewhere second [] (All-nil (IsElsewhere second)) (AllPairs-nil IsElsewhere))) 0 (q * q)

  -- from them the acts pass the check
  pub vector_flow : 0 < q → q ≤ LARGEST_SIDE → Flows (q * q) none_shut (started (vector_starts q shape)) (spread_product_acts q shape)
  vector_flow pos few = spread_flow q pos few shape (started (vector_starts q shape)) has_part has_piece
