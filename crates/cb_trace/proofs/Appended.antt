-- Lists of events, with one more event.
use Rattle.std.proofs.Common.{◌≡◌, ℕ, zero, suc, ◌≤◌, ◌==◌, ◌&&◌, Bool, true, false, if◌then◌else◌, List, [], ◌∷◌, ◌++◌, length, set, slice_get, Some, ◌⊎◌, inl, inr, refl, ◌∙◌, ap, arith, append_assoc, append-nil}
use Rattle.std.proofs.lemmas.Bool.{eq-eqb, and_from}
use Rattle.cb_letters.specs.declared.Letter.{Letter}
use Rattle.cb_letters.specs.Events.{Event, Sent, Got, posts_on, takes_on, MayFollow, AreLegalAfter}

module _ {X : Type 0} where
  -- an element stays where it is as the list grows
  pub slice_get-append : (xs ys : List X) (p : ℕ) (z : X) → slice_get xs p ≡ Some z → slice_get (xs ++ ys) p ≡ Some z
  slice_get-append [] ys p z h = cc
  slice_get-append (x ∷ xs) ys zero z h = h
  slice_get-append (x ∷ xs) ys (suc p) z h = slice_get-append xs ys p z h

  -- the last element
  pub slice_get-last : (xs : List X) (y : X) → slice_get (xs ++ y ∷ []) (length xs) ≡ Some y
  slice_get-last [] y = refl
  slice_get-last (x ∷ xs) y = slice_get-last xs y

  -- an element of the longer list was there before, or is the last
  pub slice_get-push : (xs : List X) (y : X) (p : ℕ) (z : X) → slice_get (xs ++ y ∷ []) p ≡ Some z → (slice_get xs p ≡ Some z) ⊎ ((p ≡ length xs) × (y ≡ z))
  slice_get-push [] y zero z h = inr (refl, cc)
  slice_get-push [] y (suc p) z h = inl h
  slice_get-push (x ∷ xs) y zero z h = inl h
  slice_get-push (x ∷ xs) y (suc p) z h = elim (slice_get-push xs y p z h) [ inl k ↦ inl k | inr k ↦ inr (ap suc k.0, k.1) ]

  -- an element of a list with one element changed is that one, or was there before
  pub slice_get-set : (xs : List X) (i : ℕ) (y : X) (p : ℕ) (z : X) → slice_get (set xs i y) p ≡ Some z → ((p ≡ i) × (y ≡ z)) ⊎ (slice_get xs p ≡ Some z)
  slice_get-set [] i y p z h = inr h
  slice_get-set (x ∷ xs) zero y zero z h = inl (refl, cc)
  slice_get-set (x ∷ xs) zero y (suc p) z h = inr h
  slice_get-set (x ∷ xs) (suc i) y zero z h = inr h
  slice_get-set (x ∷ xs) (suc i) y (suc p) z h = elim (slice_get-set xs i y p z h) [ inl k ↦ inl (ap suc k.0, k.1) | inr k ↦ inr k ]

  -- the element that was changed
  pub slice_get-set_same : (xs : List X) (i : ℕ) (y z : X) → slice_get (set xs i y) i ≡ Some z → y ≡ z
  slice_get-set_same [] i y z h = cc
  slice_get-set_same (x ∷ xs) zero y z h = cc
  slice_get-set_same (x ∷ xs) (suc i) y z h = slice_get-set_same xs i y z h

-- a lane is itself
same_lane : (f t : ℕ) → ((f == f) && (t == t)) ≡ true
same_lane f t = and_from (f == f) (t == t) (eq-eqb f f refl) (eq-eqb t t refl)

module _ {P : Type 0} where
  posts_on-append : (f t : ℕ) (xs ys : List (Event P)) → posts_on f t (xs ++ ys) ≡ posts_on f t xs ++ posts_on f t ys
  posts_on-append f t [] ys = refl
  posts_on-append f t (Sent g u x ∷ xs) ys =
      let rest = posts_on-append f t xs ys in
      elim ((g == f) && (u == t)) as (λ b. (if b then x ∷ posts_on f t (xs ++ ys) else posts_on f t (xs ++ ys)) ≡ (if b then x ∷ posts_on f t xs else posts_on f t xs) ++ posts_on f t ys)
      [ true ↦ ap (λ (zs : List (Letter P)). x ∷ zs) rest | false ↦ rest ]
  posts_on-append f t (Got g u x ∷ xs) ys = posts_on-append f t xs ys

  takes_on-append : (f t : ℕ) (xs ys : List (Event P)) → takes_on f t (xs ++ ys) ≡ takes_on f t xs ++ takes_on f t ys
  takes_on-append f t [] ys = refl
  takes_on-append f t (Sent g u x ∷ xs) ys = takes_on-append f t xs ys
  takes_on-append f t (Got g u x ∷ xs) ys =
      let rest = takes_on-append f t xs ys in
      elim ((g == f) && (u == t)) as (λ b. (if b then x ∷ takes_on f t (xs ++ ys) else takes_on f t (xs ++ ys)) ≡ (if b then x ∷ takes_on f t xs else takes_on f t xs) ++ takes_on f t ys)
      [ true ↦ ap (λ (zs : List (Letter P)). x ∷ zs) rest | false ↦ rest ]

  -- a post adds its letter to its lane
  pub posts_on-here : (f t : ℕ) (x : Letter P) (xs : List (Event P)) → posts_on f t (xs ++ Sent f t x ∷ []) ≡ posts_on f t xs ++ x ∷ []
  posts_on-here f t x xs = posts_on-append f t xs (Sent f t x ∷ []) ∙ ap (λ (b : Bool). posts_on f t xs ++ (if b then x ∷ [] else [])) (same_lane f t)

  -- and of no other lane
  pub posts_on-elsewhere : (f t g u : ℕ) (x : Letter P) (xs : List (Event P)) → ((g == f) && (u == t)) ≡ false → posts_on f t (xs ++ Sent g u x ∷ []) ≡ posts_on f t xs
  posts_on-elsewhere f t g u x xs other =
      posts_on-append f t xs (Sent g u x ∷ []) ∙ ap (λ (b : Bool). posts_on f t xs ++ (if b then x ∷ [] else [])) other ∙ append-nil (posts_on f t xs)

  -- a take posts nothing
  pub posts_on-take : (f t g u : ℕ) (x : Letter P) (xs : List (Event P)) → posts_on f t (xs ++ Got g u x ∷ []) ≡ posts_on f t xs
  posts_on-take f t g u x xs = posts_on-append f t xs (Got g u x ∷ []) ∙ append-nil (posts_on f t xs)

  -- a take adds its letter to those taken from its lane
  pub takes_on-here : (f t : ℕ) (x : Letter P) (xs : List (Event P)) → takes_on f t (xs ++ Got f t x ∷ []) ≡ takes_on f t xs ++ x ∷ []
  takes_on-here f t x xs = takes_on-append f t xs (Got f t x ∷ []) ∙ ap (λ (b : Bool). takes_on f t xs ++ (if b then x ∷ [] else [])) (same_lane f t)

  -- and of no other lane
  pub takes_on-elsewhere : (f t g u : ℕ) (x : Letter P) (xs : List (Event P)) → ((g == f) && (u == t)) ≡ false → takes_on f t (xs ++ Got g u x ∷ []) ≡ takes_on f t xs
  takes_on-elsewhere f t g u x xs other =
      takes_on-append f t xs (Got g u x ∷ []) ∙ ap (λ (b : Bool). takes_on f t xs ++ (if b then x ∷ [] else [])) other ∙ append-nil (takes_on f t xs)

  -- a post takes nothing
  pub takes_on-post : (f t g u : ℕ) (x : Letter P) (xs : List (Event P)) → takes_on f t (xs ++ Sent g u x ∷ []) ≡ takes_on f t xs
  takes_on-post f t g u x xs = takes_on-append f t xs (Sent g u x ∷ []) ∙ append-nil (takes_on f t xs)

  -- there are at least as many events as letters posted
  pub length-posts_on : (f t : ℕ) (xs : List (Event P)) → length (posts_on f t xs) ≤ length xs
  length-posts_on f t [] = omega arith
  length-posts_on f t (Sent g u x ∷ xs) =
      let rest = length-posts_on f t xs in
      elim ((g == f) && (u == t)) as (λ b. length (if b then x ∷ posts_on f t xs else posts_on f t xs) ≤ suc (length xs)) [ true ↦ omega arith | false ↦ omega arith ]
  length-posts_on f t (Got g u x ∷ xs) = let rest = length-posts_on f t xs in omega arith

  -- there are at least as many events as letters taken
  pub length-takes_on : (f t : ℕ) (xs : List (Event P)) → length (takes_on f t xs) ≤ length xs
  length-takes_on f t [] = omega arith
  length-takes_on f t (Sent g u x ∷ xs) = let rest = length-takes_on f t xs in omega arith
  length-takes_on f t (Got g u x ∷ xs) =
      let rest = length-takes_on f t xs in
      elim ((g == f) && (u == t)) as (λ b. length (if b then x ∷ takes_on f t xs else takes_on f t xs) ≤ suc (length xs)) [ true ↦ omega arith | false ↦ omega arith ]

  -- a legal list, followed by an event that may follow it, is legal
  pub AreLegalAfter-push : (past es : List (Event P)) (e : Event P) → AreLegalAfter past es → MayFollow (past ++ es) e → AreLegalAfter past (es ++ e ∷ [])
  AreLegalAfter-push past [] e h next = (rw append-nil at next, tt)
  AreLegalAfter-push past (x ∷ xs) e h next = (h.0, AreLegalAfter-push (past ++ x ∷ []) xs e h.1 (rw append_assoc next))
