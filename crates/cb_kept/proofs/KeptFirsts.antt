-- How many kept matrices a computation takes, and over which semiring they are.
use Rattle.std.proofs.Common.{◌≡◌, ℕ, ◌<◌, ◌≤◌, List, [], ◌∷◌, length, map, get_or, sym, ap, subst, inl, inr, ◌∙◌, arith}
use Rattle.std.specs.Prelude.{All, Result, Ok, Err}
use Rattle.std.specs.Borrow.{Bor}
use Rattle.std.proofs.lemmas.List.Elements.{All-nil, All-cons, All-head, All-tail, All-get_or}
use Rattle.cb_semirings.specs.declared.names.SemiringName.{SemiringName}
use Rattle.cb_matrix.specs.Sparse.{Sparse}
use Rattle.cb_operations.specs.declared.computations.Computation.{Computation}
use Rattle.cb_operations.specs.declared.computations.Computation.TheVariants.{Operation, Selection, MultiplyOutside}
use Rattle.cb_operations.specs.declared.operations.Operation.TheVariants.{Multiply}
use Rattle.cb_operations.specs.declared.selections.Selection.TheVariants.{Kronecker}
use Rattle.cb_operations.specs.Computations.{operand_count_of}
use Rattle.cb_operations.specs.OperationAnswers.{matrix_at}
use Rattle.cb_operations.specs.Operands.{lent_in}
use Rattle.cb_kept.specs.declared.kept.Kept.{Kept}
use Rattle.cb_kept.specs.declared.faults.Fault.{Fault}
use Rattle.cb_kept.specs.declared.faults.Fault.TheVariants.{Mixed}
use Rattle.cb_kept.specs.Kept.{semiring_of, matrix_in, AreOver, IsMixed, Keeps}
use Rattle.cb_kept.specs.Refusals.{Unless}
use Rattle.cb_kept.specs.Answers.{IsAnswer}
use Rattle.cb_kept.proofs.Firsts.{passed}

-- each computation takes one matrix to three
pub some_operand : (c : Computation) → 1 ≤ operand_count_of c
some_operand (Operation Multiply) = omega arith
some_operand (Operation _) = omega arith
some_operand (Selection Kronecker) = omega arith
some_operand (Selection _) = omega arith
some_operand MultiplyOutside = omega arith

pub few_operands : (c : Computation) → operand_count_of c ≤ 3
few_operands (Operation Multiply) = omega arith
few_operands (Operation _) = omega arith
few_operands (Selection Kronecker) = omega arith
few_operands (Selection _) = omega arith
few_operands MultiplyOutside = omega arith

-- two and three borrowed matrices, by their places
pub two : (ks : List (Bor Kept)) (a b d e : Bor Kept) → a ≡ get_or ks 0 d → b ≡ get_or ks 1 e → length ks ≡ 2 → ks ≡ a ∷ b ∷ []
two [] a b d e x y l = absurd (omega arith)
two (j ∷ []) a b d e x y l = absurd (omega arith)
two (j ∷ k ∷ []) a b d e x y l = (λ i. sym x i ∷ sym y i ∷ [])
two (j ∷ k ∷ h ∷ ks) a b d e x y l = absurd (omega arith)

pub three : (ks : List (Bor Kept)) (a b c d e f : Bor Kept) → a ≡ get_or ks 0 d → b ≡ get_or ks 1 e → c ≡ get_or ks 2 f → length ks ≡ 3 → ks ≡ a ∷ b ∷ c ∷ []
three [] a b c d e f x y z l = absurd (omega arith)
three (j ∷ []) a b c d e f x y z l = absurd (omega arith)
three (j ∷ k ∷ []) a b c d e f x y z l = absurd (omega arith)
three (j ∷ k ∷ h ∷ []) a b c d e f x y z l = (λ i. sym x i ∷ sym y i ∷ sym z i ∷ [])
three (j ∷ k ∷ h ∷ g ∷ ks) a b c d e f x y z l = absurd (omega arith)

module _ (name : SemiringName) where
  abbrev IsOver : Bor Kept → Type 0
  IsOver k = semiring_of k.now ≡ name

  -- matrices are over a semiring if they are where they are borrowed
  pub over_out : (ks : List (Bor Kept)) → AreOver name (lent_in ks) → All IsOver ks
  over_out [] h = All-nil IsOver
  over_out (k ∷ ks) h =
      All-cons IsOver k ks (All-head (λ (x : Kept). semiring_of x ≡ name) k.now (lent_in ks) h) (over_out ks (All-tail (λ (x : Kept). semiring_of x ≡ name) k.now (lent_in ks) h))

  pub over_at : (ks : List (Bor Kept)) (i : ℕ) (k d : Bor Kept) → k ≡ get_or ks i d → AreOver name (lent_in ks) → i < length ks → semiring_of k.now ≡ name
  over_at ks i k d e h l = subst IsOver (sym e) (All-get_or IsOver ks i d l (over_out ks h))

  -- one that isn't over it is a fault
  pub mixed_at : (faults : Fault → Type 0) (ks : List (Bor Kept)) (i : ℕ) (k d : Bor Kept) → k ≡ get_or ks i d → i < length ks → (f : Fault) → IsMixed name k.now f → Unless (AreOver name (lent_in ks)) Mixed faults f
  mixed_at faults ks i k d e l f h = inl (h.0, λ over. h.1 (over_at ks i k d e over l))

  -- a call on matrices that are over it
  pub call_on : {X : Type 0} (faults : List Sparse → Fault → Type 0) (gives : List Sparse → X → Type 0) (ks : List Kept) (ms : List Sparse) (r : Result X Fault)
      → AreOver name ks → map matrix_in ks ≡ ms → IsAnswer (faults ms) (gives ms) r → IsAnswer (Unless (AreOver name ks) Mixed (faults (map matrix_in ks))) (gives (map matrix_in ks)) r
  call_on faults gives ks ms (Ok x) over e h =
      let g = subst (λ l. IsAnswer (faults l) (gives l) (Ok x)) (sym e) h in (passed _ Mixed _ over g.0, g.1)
  call_on faults gives ks ms (Err f) over e h = inr (over, subst (λ l. faults l f) (sym e) h)

  abbrev KeepsAt : Sparse → Bor Kept → Type 0
  KeepsAt m k = Keeps name m k.now

  abbrev OverAt : Kept → Type 0
  OverAt k = semiring_of k ≡ name

  -- on two, and on three
  pub on_two : {X : Type 0} (faults : List Sparse → Fault → Type 0) (gives : List Sparse → X → Type 0) (ks : List (Bor Kept)) (a b : Bor Kept) (x y : Sparse) (r : Result X Fault)
      → ks ≡ a ∷ b ∷ [] → KeepsAt x a → KeepsAt y b → IsAnswer (faults (x ∷ y ∷ [])) (gives (x ∷ y ∷ [])) r
      → IsAnswer (Unless (AreOver name (lent_in ks)) Mixed (faults (map matrix_in (lent_in ks)))) (gives (map matrix_in (lent_in ks))) r
  on_two faults gives ks a b x y r e j k h =
      call_on faults gives (lent_in ks) (x ∷ y ∷ []) r
      (subst (λ l. AreOver name (lent_in l)) (sym e) (All-cons OverAt a.now (b.now ∷ []) j.semiring (All-cons OverAt b.now [] k.semiring (All-nil OverAt))))
      ((λ i. map matrix_in (lent_in (e i))) ∙ (λ i. j.matrix i ∷ k.matrix i ∷ [])) h

  pub on_three : {X : Type 0} (faults : List Sparse → Fault → Type 0) (gives : List Sparse → X → Type 0) (ks : List (Bor Kept)) (a b c : Bor Kept) (x y z : Sparse) (r : Result X Fault)
      → ks ≡ a ∷ b ∷ c ∷ [] → KeepsAt x a → KeepsAt y b → KeepsAt z c → IsAnswer (faults (x ∷ y ∷ z ∷ [])) (gives (x ∷ y ∷ z ∷ [])) r
      → IsAnswer (Unless (AreOver name (lent_in ks)) Mixed (faults (map matrix_in (lent_in ks)))) (gives (map matrix_in (lent_in ks))) r
  on_three faults gives ks a b c x y z r e j k m h =
      call_on faults gives (lent_in ks) (x ∷ y ∷ z ∷ []) r
      (subst (λ l. AreOver name (lent_in l)) (sym e) (All-cons OverAt a.now (b.now ∷ c.now ∷ []) j.semiring (All-cons OverAt b.now (c.now ∷ []) k.semiring (All-cons OverAt c.now [] m.semiring (All-nil OverAt)))))
      ((λ i. map matrix_in (lent_in (e i))) ∙ (λ i. j.matrix i ∷ k.matrix i ∷ m.matrix i ∷ [])) h

-- the first of some borrowed matrices
pub first_matrix : (ms : List (Bor Sparse)) (m : Bor Sparse) → m ≡ get_or ms 0 m → 0 < length ms → m.now ≡ matrix_at (lent_in ms) 0
first_matrix [] m e l = absurd (omega arith)
first_matrix (n ∷ ms) m e l = ap (λ (x : Bor Sparse). x.now) e
