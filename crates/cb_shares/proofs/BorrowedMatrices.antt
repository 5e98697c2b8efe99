-- Two or three borrowed matrices, each read by its index, are all of a list of as many.
use Rattle.std.proofs.Common.{◌≡◌, ◌<◌, ◌≤◌, List, [], ◌∷◌, length, get_or, subst, arith}
use Rattle.std.specs.Prelude.{All}
use Rattle.std.specs.Borrow.{Bor}
use Rattle.std.proofs.lemmas.List.Elements.{All-cons, All-nil}
use Rattle.cb_semirings.specs.Arithmetic.{Arithmetic}
use Rattle.cb_matrix.specs.Sparse.{Sparse, IsMatrix}
use Rattle.cb_operations.specs.Operands.{lent_in}

module _ (s : Arithmetic) where
  -- the matrix at a place is the one that was read there
  here : (x y : Bor Sparse) → x ≡ y → IsMatrix s x.now → IsMatrix s y.now
  here x y e is = subst (λ (z : Bor Sparse). IsMatrix s z.now) e is

  pub two : (xs : List (Bor Sparse)) (a b : Bor Sparse) → 2 ≤ length xs → length xs < 3 → a ≡ get_or xs 0 a → b ≡ get_or xs 1 b → IsMatrix s a.now → IsMatrix s b.now → All (IsMatrix s) (lent_in xs)
  two [] a b l m e f is_a is_b = absurd (omega (arith, l))
  two (x ∷ []) a b l m e f is_a is_b = absurd (omega (arith, l))
  two (x ∷ y ∷ []) a b l m e f is_a is_b = All-cons (IsMatrix s) x.now (y.now ∷ []) (here a x e is_a) (All-cons (IsMatrix s) y.now [] (here b y f is_b) (All-nil (IsMatrix s)))
  two (x ∷ y ∷ z ∷ zs) a b l m e f is_a is_b = absurd (omega (arith, m))

  pub three : (xs : List (Bor Sparse)) (a b c : Bor Sparse) → 3 ≤ length xs → length xs < 4 → a ≡ get_or xs 0 a → b ≡ get_or xs 1 b → c ≡ get_or xs 2 c → IsMatrix s a.now → IsMatrix s b.now → IsMatrix s c.now
      → All (IsMatrix s) (lent_in xs)
  three [] a b c l m e f h is_a is_b is_c = absurd (omega (arith, l))
  three (x ∷ []) a b c l m e f h is_a is_b is_c = absurd (omega (arith, l))
  three (x ∷ y ∷ []) a b c l m e f h is_a is_b is_c = absurd (omega (arith, l))
  three (x ∷ y ∷ z ∷ []) a b c l m e f h is_a is_b is_c =
      All-cons (IsMatrix s) x.now (y.now ∷ z.now ∷ []) (here a x e is_a)
      (All-cons (IsMatrix s) y.now (z.now ∷ []) (here b y f is_b) (All-cons (IsMatrix s) z.now [] (here c z h is_c) (All-nil (IsMatrix s))))
  three (x ∷ y ∷ z ∷ w ∷ ws) a b c l m e f h is_a is_b is_c = absurd (omega (arith, m))
