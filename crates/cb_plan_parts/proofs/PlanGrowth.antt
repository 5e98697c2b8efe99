-- How a plan grows, and how it does in a loop over a range if it has room.
use Rattle.std.proofs.Common.{◌≡◌, ℕ, zero, suc, ◌+◌, ◌<◌, ◌≤◌, List, [], ◌∷◌, ◌++◌, map, length, get_or, take, length-append, refl, sym, ap, ◌∙◌, arith, append_assoc, append-nil, add-one, take-suc}
use Rattle.std.specs.List.{range_with_len, flat_map}
use Rattle.std.proofs.lemmas.List.FromFn.{length-map-range_with_len, map-range_with_len_more}
use Rattle.std.proofs.lemmas.List.Folds.{length-flat_map-take}
use Rattle.std.proofs.lemmas.Grind.{flat_map-append}
use Rattle.cb_plan.specs.declared.acts.Act.{Act}
use Rattle.cb_plan.specs.Plans.{PlanView}
use Rattle.cb_plan_parts.specs.Appends.{HasRoom, Grew, Appended}

-- a plan as it is has no acts more
pub grew_none : (plan : PlanView) → Grew [] plan plan
grew_none plan = record { ranks_are = refl; acts_are = sym (append-nil plan.acts) }

-- a plan that grows twice has the acts of both
pub grew_both : (xs ys : List Act) (first now next : PlanView) → Grew xs first now → Grew ys now next → Grew (xs ++ ys) first next
grew_both xs ys first now next h k = record { ranks_are = k.ranks_are ∙ h.ranks_are; acts_are = k.acts_are ∙ ap (λ zs. zs ++ ys) h.acts_are ∙ append_assoc first.acts xs ys }

-- the same, if there is room
pub appended_none : (plan : PlanView) → Appended [] plan plan
appended_none plan = record { grew = grew_none plan; room = omega arith }

pub appended_both : (xs ys : List Act) (first now next : PlanView) → Appended xs first now → Appended ys now next → Appended (xs ++ ys) first next
appended_both xs ys first now next h k = record {
  grew = grew_both xs ys first now next h.grew k.grew;
  room = let a = h.room in let b = k.room in omega arith;
}

-- what is left of the room for two lists
pub room_left : (xs ys : List Act) (first now : PlanView) → HasRoom first (xs ++ ys) → Appended xs first now → HasRoom now ys
room_left xs ys first now h k =
    let e = ap length k.grew.acts_are ∙ length-append first.acts xs in
    let f = length-append xs ys in
    let m = h.memory in
    let l = h.limit in
    let r = k.room in
    record { memory = omega arith; limit = omega arith }

room_for : (xs ys all : List Act) (first now : PlanView) → length xs + length ys ≤ length all → HasRoom first all → Appended xs first now → HasRoom now ys
room_for xs ys all first now le h k =
    let e = ap length k.grew.acts_are ∙ length-append first.acts xs in
    let m = h.memory in
    let l = h.limit in
    let r = k.room in
    record { memory = omega arith; limit = omega arith }

module _ (f : ℕ → Act) (a n i : ℕ) (first now : PlanView) where
  -- the next act has room
  pub next_has_room : (b : ℕ) (x : Act) → a + i ≡ b → i < n → HasRoom first (map f (range_with_len a n)) → Appended (map f (range_with_len a i)) first now → HasRoom now (x ∷ [])
  next_has_room b x e l h k =
      room_for (map f (range_with_len a i)) (x ∷ []) (map f (range_with_len a n)) first now
      (let y = length-map-range_with_len f a i in let z = length-map-range_with_len f a n in omega arith) h k

  -- and the range goes one act further
  pub next_appended : (b : ℕ) (x : Act) (next : PlanView) → a + i ≡ b → x ≡ f b → Appended (map f (range_with_len a i)) first now → Appended (x ∷ []) now next → Appended (map f (range_with_len a (i + 1))) first next
  next_appended b x next e is h k =
      rw (map-range_with_len_more f a i b e, sym is) (appended_both (map f (range_with_len a i)) (x ∷ []) first now next h k)

flat_more : (f : ℕ → List Act) (a n b : ℕ) → a + n ≡ b → flat_map f (range_with_len a (n + 1)) ≡ flat_map f (range_with_len a n) ++ f b
flat_more f a zero b e = let g : a ≡ b = omega arith in ap (λ k. f k ++ []) g ∙ append-nil (f b)
flat_more f a (suc n) b e =
    let g : suc n + 1 ≡ suc (n + 1) = omega arith in
    rw g (ap (λ xs. f a ++ xs) (flat_more f (a + 1) n b (omega arith)) ∙ sym (append_assoc (f a) (flat_map f (range_with_len (a + 1) n)) (f b)))

-- the lists of a range, up to one of them and with it, are no longer than those of the whole range
pub length_up_to : (f : ℕ → List Act) (a n i b : ℕ) → a + i ≡ b → i < n → length (flat_map f (range_with_len a i)) + length (f b) ≤ length (flat_map f (range_with_len a n))
length_up_to f a zero i b e l = absurd (omega arith)
length_up_to f a (suc n) zero b e l =
    let g : a ≡ b = omega arith in
    let x = length-append (f a) (flat_map f (range_with_len (a + 1) n)) in
    let y = ap (λ k. length (f k)) g in
    omega arith
length_up_to f a (suc n) (suc i) b e l =
    let h = length_up_to f (a + 1) n i b (omega arith) (omega arith) in
    let x = length-append (f a) (flat_map f (range_with_len (a + 1) n)) in
    let y = length-append (f a) (flat_map f (range_with_len (a + 1) i)) in
    omega arith

module _ (f : ℕ → List Act) (a n i : ℕ) (first now : PlanView) where
  -- the next list of acts has room
  pub next_have_room : (b : ℕ) → a + i ≡ b → i < n → HasRoom first (flat_map f (range_with_len a n)) → Appended (flat_map f (range_with_len a i)) first now → HasRoom now (f b)
  next_have_room b e l h k = room_for (flat_map f (range_with_len a i)) (f b) (flat_map f (range_with_len a n)) first now (length_up_to f a n i b e l) h k

  -- and the range goes one list further
  pub next_are_appended : (b : ℕ) (next : PlanView) → a + i ≡ b → Appended (flat_map f (range_with_len a i)) first now → Appended (f b) now next → Appended (flat_map f (range_with_len a (i + 1))) first next
  next_are_appended b next e h k =
      rw (flat_more f a i b e) (appended_both (flat_map f (range_with_len a i)) (f b) first now next h k)

module _ (f : ℕ → List Act) (xs : List ℕ) (i x : ℕ) (first now : PlanView) (l : i < length xs) (is : x ≡ get_or xs i 0) where
  -- the acts of the next element have room
  pub element_has_room : HasRoom first (flat_map f xs) → Appended (flat_map f (take i xs)) first now → HasRoom now (f x)
  element_has_room h k =
      rw is (room_for (flat_map f (take i xs)) (f (get_or xs i 0)) (flat_map f xs) first now (length-flat_map-take f xs i 0 l) h k)

  -- and the list goes one element further
  pub element_is_appended : (next : PlanView) → Appended (flat_map f (take i xs)) first now → Appended (f x) now next → Appended (flat_map f (take (i + 1) xs)) first next
  element_is_appended next h k =
      let e : flat_map f (take (i + 1) xs) ≡ flat_map f (take i xs) ++ f x =
      ap (flat_map f) (rw add-one (take-suc xs i 0 l)) ∙ flat_map-append f (take i xs) (get_or xs i 0 ∷ []) ∙ ap (λ ys. flat_map f (take i xs) ++ ys) (append-nil (f (get_or xs i 0)) ∙ ap f (sym is)) in
      rw e (appended_both (flat_map f (take i xs)) (f x) first now next h k)
