-- The entries of a matrix, counted tile by tile.
use Rattle.std.proofs.Common.{◌≡◌, ℕ, ◌+◌, ◌*◌, ◌<◌, ◌≤◌, true, false, List, [], ◌∷◌, length, filter, refl, ap, ⊎_elim, arith}
use Rattle.std.specs.Prelude.{All, AllPairs, ◌==◌, nat_lt}
use Rattle.std.proofs.lemmas.Bool.{cases_lt}
use Rattle.std.proofs.lemmas.Bool.Decides.{nat_tests}
use Rattle.std.proofs.lemmas.List.Elements.{All-head, All-tail, All-weaker}
use Rattle.std.proofs.Math.Nat.{mul-le-mul_left}
use Rattle.cb_matrix.specs.declared.Entry.{Entry}
use Rattle.cb_matrix.specs.Sparse.{Extent, IsBefore, IsInside}
use Rattle.cb_matrix.proofs.Places.{AllPairs-head, AllPairs-tail}
use Rattle.cb_grid.specs.Tiles.{Tiles}
use Rattle.cb_grid.proofs.Tiles.{owner_of, entries_of}

-- the entries of the tiles below the nth
abbrev pub before : Tiles → ℕ → List Entry → List Entry
before t n es = filter (λ e. nat_lt (owner_of t e) n) es

-- there are no entries in the tiles below the first
pub before_none : (t : Tiles) (es : List Entry) → length (before t 0 es) ≡ 0
before_none t [] = refl
before_none t (e ∷ es) = let f : nat_lt (owner_of t e) 0 ≡ false = grind (arith, nat_tests) in rw f (before_none t es)

-- one more tile
pub before_more : (t : Tiles) (n : ℕ) (es : List Entry) → length (before t (n + 1) es) ≡ length (before t n es) + length (entries_of t n es)
unfolding entries_of
before_more t n [] = refl
before_more t n (e ∷ es) =
    let rest = before_more t n es in
    ⊎_elim
    (λ (l : owner_of t e < n).
    let a : nat_lt (owner_of t e) (n + 1) ≡ true = grind (arith, nat_tests) in
    let b : nat_lt (owner_of t e) n ≡ true = grind (arith, nat_tests) in
    let d : (owner_of t e == n) ≡ false = grind (arith, nat_tests) in
    rw (a, b, d) (omega arith))
    (λ (l : n ≤ owner_of t e).
    let b : nat_lt (owner_of t e) n ≡ false = grind (arith, nat_tests) in
    ⊎_elim
    (λ (m : owner_of t e < n + 1).
    let a : nat_lt (owner_of t e) (n + 1) ≡ true = grind (arith, nat_tests) in
    let d : (owner_of t e == n) ≡ true = grind (arith, nat_tests) in
    rw (a, b, d) (omega arith))
    (λ (m : n + 1 ≤ owner_of t e).
    let a : nat_lt (owner_of t e) (n + 1) ≡ false = grind (arith, nat_tests) in
    let d : (owner_of t e == n) ≡ false = grind (arith, nat_tests) in
    rw (a, b, d) rest)
    (cases_lt (owner_of t e) (n + 1)))
    (cases_lt (owner_of t e) n)

-- all tiles
pub before_all : (t : Tiles) (n : ℕ) (es : List Entry) → All (λ e. owner_of t e < n) es → length (before t n es) ≡ length es
before_all t n [] h = refl
before_all t n (e ∷ es) h =
    let l : owner_of t e < n = All-head (λ e. owner_of t e < n) e es h in
    let a : nat_lt (owner_of t e) n ≡ true = grind (arith, nat_tests) in
    let rest = before_all t n es (All-tail (λ e. owner_of t e < n) e es h) in
    rw a (omega arith)

-- the number of an entry's place, column by column
abbrev place : Extent → Entry → ℕ
place shape e = shape.rows * e.column + e.row

place_before : (shape : Extent) (d e : Entry) → IsInside shape d → IsBefore d e → place shape d < place shape e
place_before shape d e k h =
    ⊎_elim
    (λ (l : d.column < e.column).
    let m : shape.rows * (d.column + 1) ≤ shape.rows * e.column = mul-le-mul_left shape.rows (let n : d.column + 1 ≤ e.column = omega arith in n) in
    let r = k.0 in
    omega arith)
    (λ l. let c = ap (λ x. shape.rows * x) l.0 in let r = l.1 in omega arith)
    h

place_below : (shape : Extent) (e : Entry) → IsInside shape e → place shape e < shape.rows * shape.cols
place_below shape e k =
    let m : shape.rows * (e.column + 1) ≤ shape.rows * shape.cols = mul-le-mul_left shape.rows (let n : e.column + 1 ≤ shape.cols = let c = k.1 in omega arith in n) in
    let r = k.0 in
    omega arith

-- entries from a place on are no more than the places from there on
at_most_from : (shape : Extent) (n : ℕ) (es : List Entry) → n ≤ shape.rows * shape.cols → All (IsInside shape) es → AllPairs IsBefore es → All (λ e. n ≤ place shape e) es → length es + n ≤ shape.rows * shape.cols
at_most_from shape n [] l k h p = omega arith
at_most_from shape n (e ∷ es) l k h p =
    let here = All-head (IsInside shape) e es k in
    let below = place_below shape e here in
    let from = All-head (λ e. n ≤ place shape e) e es p in
    let rest = at_most_from shape (place shape e + 1) es (omega arith) (All-tail (IsInside shape) e es k) (AllPairs-tail IsBefore e es h)
    (All-weaker (IsBefore e) (λ d. place shape e + 1 ≤ place shape d) (λ d b. let m = place_before shape e d here b in omega arith) es (AllPairs-head IsBefore e es h)) in
    omega arith

-- a matrix has no more entries than places
pub entries_at_most : (shape : Extent) (es : List Entry) → All (IsInside shape) es → AllPairs IsBefore es → length es ≤ shape.rows * shape.cols
entries_at_most shape es k h = let m = at_most_from shape 0 es (omega arith) k h (All-weaker (IsInside shape) (λ e. 0 ≤ place shape e) (λ e _. omega arith) es k) in omega arith

-- and fewer than 2^62, as no shape has more places
pub entries_below : (shape : Extent) (es : List Entry) → shape.rows ≤ 2147483647 → shape.cols ≤ 2147483647 → All (IsInside shape) es → AllPairs IsBefore es → length es < 4611686018427387904
entries_below shape es rows cols k h =
    let m = entries_at_most shape es k h in
    let a : shape.rows * shape.cols ≤ shape.rows * 2147483647 = mul-le-mul_left shape.rows cols in
    omega arith
