-- One of several lists changes.
use Rattle.std.proofs.Common.{◌≡◌, ℕ, ◌+◌, ◌<◌, List, [], ◌∷◌, ◌++◌, length, map, get_or, sym, ap, ◌∙◌, arith}
use Rattle.std.specs.Prelude.{slice_set, replicate}
use Rattle.std.proofs.lemmas.List.{map-set, get_or-set_same, map-append, replicate_more}
use Rattle.std.proofs.Math.Seq.{map-set_same}
use Rattle.std.proofs.lemmas.List.{get_or-map as image}

-- an element is replaced by one with the same image
pub same_set : {X Y : Type 0} (f : X → Y) (xs : List X) (k : ℕ) (x y : X) → x ≡ get_or xs k x → f y ≡ f x → map f (slice_set xs k y) ≡ map f xs
same_set f xs k x y is e = map-set_same f xs k y x (e ∙ ap f is)

-- the image of the element at k, after it was replaced
pub image_there : {X Y : Type 0} (f : X → Y) (xs : List X) (k : ℕ) (y : X) (d : Y) → k < length xs → length (slice_set xs k y) ≡ length xs → get_or (map f (slice_set xs k y)) k d ≡ f y
image_there f xs k y d l size = image f (slice_set xs k y) k y d (omega arith) ∙ ap f (get_or-set_same xs k y y l)

-- an element is replaced by one whose image is longer by one
pub grown_set : {X Z : Type 0} (f : X → List Z) (xs : List X) (k : ℕ) (x y : X) (z : Z) → k < length xs → x ≡ get_or xs k x → f y ≡ f x ++ z ∷ []
    → map f (slice_set xs k y) ≡ slice_set (map f xs) k (get_or (map f xs) k [] ++ z ∷ [])
grown_set f xs k x y z l is e =
    map-set f xs k y ∙ ap (λ w. slice_set (map f xs) k w) (e ∙ ap (λ w. w ++ z ∷ []) (ap f is ∙ sym (image f xs k x [] l)))

-- images of a list with one more element
pub more_images : {X Z : Type 0} (g : X → Z) (old new : List X) (x : X) (z : Z) → new ≡ old ++ x ∷ [] → g x ≡ z → map g new ≡ map g old ++ z ∷ []
more_images g old new x z e is = ap (map g) e ∙ map-append g old (x ∷ []) ∙ ap (λ w. map g old ++ w ∷ []) is

-- one empty list more
pub more_empty : {X Z : Type 0} (f : X → List Z) (old new : List X) (x : X) (n m : ℕ) → new ≡ old ++ x ∷ [] → f x ≡ [] → m ≡ n + 1 → map f old ≡ replicate n [] → map f new ≡ replicate m []
more_empty f old new x n m e is more so_far = ap (map f) e ∙ map-append f old (x ∷ []) ∙ ap (λ w. map f old ++ w ∷ []) is ∙ ap (λ w. w ++ [] ∷ []) so_far ∙ replicate_more n [] ∙ ap (λ k. replicate k []) (sym more)
