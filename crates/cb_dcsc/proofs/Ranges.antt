-- Ranges of a list: the elements from one place up to another.
use Rattle.std.proofs.Common.{◌≡◌, ℕ, zero, suc, ◌+◌, ◌-◌, ◌<◌, ◌≤◌, List, [], ◌∷◌, ◌++◌, length, map, take, drop, get_or, sym, ap, subst, ◌∙◌, arith, length-drop, length-take}
use Rattle.std.specs.Prelude.{slice_range, All, AllPairs}
use Rattle.std.proofs.lemmas.List.{drop-append-le, drop-drop, drop-map, drop-take, drop_at, get_or-drop, get_or-map, get_or-take, length-map, length-take-le, take-append-le, take-map, take-take, take_all}
use Rattle.std.proofs.lemmas.List.Elements.{All-from_get_or}

module _ {X : Type 0} where
  -- so many elements, and some more
  take_split : (a k : ℕ) (xs : List X) → take a xs ++ take k (drop a xs) ≡ take (a + k) xs
  take_split zero k xs = let e : k ≡ 0 + k = omega arith in ap (λ n. take n xs) e
  take_split (suc a) zero [] = let e : suc a ≡ suc a + zero = omega arith in ap (λ n. take n []) e
  take_split (suc a) (suc k) [] = let e : suc (a + suc k) ≡ suc a + suc k = omega arith in ap (λ n. take n []) e
  take_split (suc a) k (x ∷ xs) = let e : suc (a + k) ≡ suc a + k = omega arith in ap (λ ys. x ∷ ys) (take_split a k xs) ∙ ap (λ n. take n (x ∷ xs)) e

  -- nothing is between a place and itself
  pub no_range : (xs : List X) (a : ℕ) → slice_range xs a a ≡ []
  no_range xs a = let z : a - a ≡ 0 = omega arith in ap (λ n. take n (drop a xs)) z

  -- the first elements, and a range behind them
  pub range_join : (a b : ℕ) (xs : List X) → a ≤ b → take a xs ++ slice_range xs a b ≡ take b xs
  range_join a b xs l = let e : a + (b - a) ≡ b = omega arith in take_split a (b - a) xs ∙ ap (λ n. take n xs) e

  -- two ranges, one after the other
  pub range_both : (xs : List X) (a b c : ℕ) → a ≤ b → b ≤ c → slice_range xs a b ++ slice_range xs b c ≡ slice_range xs a c
  range_both xs a b c l m =
      let e : a + (b - a) ≡ b = omega arith in
      let f : (b - a) + (c - b) ≡ c - a = omega arith in
      ap (λ ys. slice_range xs a b ++ take (c - b) ys) (sym (drop-drop (b - a) a xs ∙ ap (λ n. drop n xs) e))
      ∙ take_split (b - a) (c - b) (drop a xs)
      ∙ ap (λ n. take n (drop a xs)) f

  -- a range before another list
  pub range_front : (a b : ℕ) (xs ys : List X) → a ≤ b → b ≤ length xs → slice_range (xs ++ ys) a b ≡ slice_range xs a b
  range_front a b xs ys l m = let n : b - a ≤ length (drop a xs) = simp length-drop (omega arith) in ap (take (b - a)) (drop-append-le a xs ys (omega arith)) ∙ take-append-le (b - a) (drop a xs) ys n

  -- the range of the list behind it
  pub range_back : (a b : ℕ) (xs ys : List X) → length xs ≡ a → length ys ≡ b - a → slice_range (xs ++ ys) a b ≡ ys
  range_back a b xs ys e f = ap (take (b - a)) (drop_at xs ys a e) ∙ take_all (b - a) ys (omega arith)

  -- a range of a range
  pub range_of_range : (xs : List X) (p q i j : ℕ) → i ≤ j → p + j ≤ q → slice_range (slice_range xs p q) i j ≡ slice_range xs (p + i) (p + j)
  range_of_range xs p q i j l m =
      let ys = drop p xs in
      let more : q - p ≡ i + (q - p - i) = omega arith in
      let size : (p + j) - (p + i) ≡ j - i = omega arith in
      ap (λ k. take (j - i) (drop i (take k ys))) more
      ∙ ap (take (j - i)) (drop-take i (q - p - i) ys)
      ∙ take-take (j - i) (q - p - i) (drop i ys) (omega arith)
      ∙ ap (take (j - i)) (drop-drop i p xs)
      ∙ ap (λ k. take k (drop (p + i) xs)) (sym size)

  -- the k-th element of a range
  pub get_or-range : (xs : List X) (a b k : ℕ) (d : X) → k < b - a → get_or (slice_range xs a b) k d ≡ get_or xs (a + k) d
  get_or-range xs a b k d l = get_or-take (b - a) (drop a xs) k d l ∙ get_or-drop a xs k d

  -- how many there are
  pub length-range : (xs : List X) (a b : ℕ) → b ≤ length xs → length (slice_range xs a b) ≡ b - a
  length-range xs a b l = simp (length-take, length-drop) (omega arith)

-- a range of other elements
pub map-range : {X Y : Type 0} (f : X → Y) (xs : List X) (a b : ℕ) → slice_range (map f xs) a b ≡ map f (slice_range xs a b)
map-range f xs a b = ap (take (b - a)) (drop-map f a xs) ∙ take-map f (b - a) (drop a xs)

-- what holds of each element from one place up to another holds of these
pub range_all : (P : ℕ → Type 0) (xs : List ℕ) (a b : ℕ) → a ≤ b → b ≤ length xs → ((k : ℕ) → a ≤ k → k < b → P (get_or xs k 0)) → All P (take (b - a) (drop a xs))
range_all P xs a b l m h = All-from_get_or P (take (b - a) (drop a xs)) 0 (λ k n.
    let rest = length-drop a xs in
    let count = length-take-le (b - a) (drop a xs) (omega arith) in
    let e = get_or-take (b - a) (drop a xs) k 0 (omega arith) ∙ get_or-drop a xs k 0 in
    subst P (sym e) (h (a + k) (omega arith) (omega arith)))

-- numbers that ascend do so from one place up to another
pub range_ascends : (xs : List ℕ) (a b : ℕ) → a ≤ b → b ≤ length xs → AllPairs (λ i j. i < j) xs → AllPairs (λ i j. i < j) (take (b - a) (drop a xs))
range_ascends xs a b l m up i j d less n =
    let rest = length-drop a xs in
    let count = length-take-le (b - a) (drop a xs) (omega arith) in
    let x = get_or-take (b - a) (drop a xs) i d (omega arith) ∙ get_or-drop a xs i d in
    let y = get_or-take (b - a) (drop a xs) j d (omega arith) ∙ get_or-drop a xs j d in
    rw (x, y) (up (a + i) (a + j) d (omega arith) (omega arith))

-- and after a move
pub moved_ascend : (xs : List ℕ) (from to : ℕ) → All (λ i. from ≤ i) xs → AllPairs (λ i j. i < j) xs → AllPairs (λ i j. i < j) (map (λ i. i - from + to) xs)
moved_ascend xs from to above up i j d l m =
    let f : ℕ → ℕ = λ i. i - from + to in
    let long = length-map xs f in
    let inside : j < length xs = omega arith in
    let less = up i j 0 l inside in
    let first = above i 0 (omega arith) in
    let x = get_or-map f xs i 0 d (omega arith) in
    let y = get_or-map f xs j 0 d inside in
    rw (x, y) (omega arith)
