-- Lists of which each element and each later one stand in a relation.
use Rattle.std.proofs.Common.{ℕ, suc, zero, List, [], ◌∷◌, ◌++◌, drop, arith}
use Rattle.std.specs.Prelude.{All, AllPairs}
use Rattle.std.proofs.lemmas.List.Elements.{All-head, All-tail, All-cons, All-nil, All-append, All-weaker}

-- the first element and each later one
pub AllPairs-head : {X : Type 0} (R : X → X → Type 0) (x : X) (xs : List X) → AllPairs R (x ∷ xs) → All (R x) xs
AllPairs-head R x xs h k d l = h 0 (suc k) d (omega arith) (omega arith)

-- the elements after the first
pub AllPairs-tail : {X : Type 0} (R : X → X → Type 0) (x : X) (xs : List X) → AllPairs R (x ∷ xs) → AllPairs R xs
AllPairs-tail R x xs h i j d l m = h (suc i) (suc j) d (omega arith) (omega arith)

-- no elements
pub AllPairs-nil : {X : Type 0} (R : X → X → Type 0) → AllPairs R []
AllPairs-nil R i j d l m = absurd (omega arith)

-- an element in front of others
pub AllPairs-cons : {X : Type 0} (R : X → X → Type 0) (x : X) (xs : List X) → All (R x) xs → AllPairs R xs → AllPairs R (x ∷ xs)
AllPairs-cons R x xs h t zero zero d l m = absurd (omega arith)
AllPairs-cons R x xs h t zero (suc j) d l m = h j d (omega arith)
AllPairs-cons R x xs h t (suc i) zero d l m = absurd (omega arith)
AllPairs-cons R x xs h t (suc i) (suc j) d l m = t i j d (omega arith) (omega arith)

-- one list after another
pub AllPairs-append : {X : Type 0} (R : X → X → Type 0) (xs ys : List X) → AllPairs R xs → AllPairs R ys → All (λ x. All (R x) ys) xs → AllPairs R (xs ++ ys)
AllPairs-append R [] ys h k b = k
AllPairs-append R (x ∷ xs) ys h k b =
    AllPairs-cons R x (xs ++ ys) (All-append (R x) xs ys (AllPairs-head R x xs h) (All-head (λ x. All (R x) ys) x xs b)) (AllPairs-append R xs ys (AllPairs-tail R x xs h) k (All-tail (λ x. All (R x) ys) x xs b))

-- what holds of each element holds of each of a front of the list
pub All-front : {X : Type 0} (P : X → Type 0) (xs ys : List X) → All P (xs ++ ys) → All P xs
All-front P [] ys h = All-nil P
All-front P (x ∷ xs) ys h = All-cons P x xs (All-head P x (xs ++ ys) h) (All-front P xs ys (All-tail P x (xs ++ ys) h))

-- and of the last one
pub All-last : {X : Type 0} (P : X → Type 0) (xs : List X) (y : X) → All P (xs ++ y ∷ []) → P y
All-last P [] y h = All-head P y [] h
All-last P (x ∷ xs) y h = All-last P xs y (All-tail P x (xs ++ y ∷ []) h)

-- a front of the list
pub AllPairs-front : {X : Type 0} (R : X → X → Type 0) (xs ys : List X) → AllPairs R (xs ++ ys) → AllPairs R xs
AllPairs-front R [] ys h = AllPairs-nil R
AllPairs-front R (x ∷ xs) ys h = AllPairs-cons R x xs (All-front (R x) xs ys (AllPairs-head R x (xs ++ ys) h)) (AllPairs-front R xs ys (AllPairs-tail R x (xs ++ ys) h))

-- each element before the last, and the last
pub AllPairs-last : {X : Type 0} (R : X → X → Type 0) (xs : List X) (y : X) → AllPairs R (xs ++ y ∷ []) → All (λ x. R x y) xs
AllPairs-last R [] y h = All-nil (λ x. R x y)
AllPairs-last R (x ∷ xs) y h = All-cons (λ x. R x y) x xs (All-last (R x) xs y (AllPairs-head R x (xs ++ y ∷ []) h)) (AllPairs-last R xs y (AllPairs-tail R x (xs ++ y ∷ []) h))

-- an element behind others
pub AllPairs-push : {X : Type 0} (R : X → X → Type 0) (xs : List X) (y : X) → AllPairs R xs → All (λ x. R x y) xs → AllPairs R (xs ++ y ∷ [])
AllPairs-push R xs y h k = AllPairs-append R xs (y ∷ []) h (AllPairs-cons R y [] (All-nil (R y)) (AllPairs-nil R)) (All-weaker (λ x. R x y) (λ x. All (R x) (y ∷ [])) (λ x r. All-cons (R x) y [] r (All-nil (R x))) xs k)

-- the elements from some place on
pub AllPairs-drop : {X : Type 0} (R : X → X → Type 0) (m : ℕ) (xs : List X) → AllPairs R xs → AllPairs R (drop m xs)
AllPairs-drop R zero xs h = h
AllPairs-drop R (suc m) [] h = AllPairs-nil R
AllPairs-drop R (suc m) (x ∷ xs) h = AllPairs-drop R m xs (AllPairs-tail R x xs h)
