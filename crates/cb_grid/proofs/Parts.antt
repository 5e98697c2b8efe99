-- Each place of a dimension is in one part.
use Rattle.std.proofs.Common.{◌≡◌, ℕ, ◌+◌, ◌*◌, ◌/◌, ◌%◌, ◌<◌, ◌≤◌, ap, ⊎_elim, ◌∙◌, arith}
use Rattle.std.specs.Int.{div_ceil}
use Rattle.std.proofs.lemmas.Bool.{cases_lt}
use Rattle.std.proofs.lemmas.Nat.{mod_below, div-mul-add, le-div}
use Rattle.std.proofs.lemmas.Grind.{div_ceil_times}
use Rattle.std.proofs.Math.Nat.{add-mul, one-mul, div-add-mod, div-mul-le_self, mul-le-mul_left}
use Rattle.cb_grid.specs.Parts.{part_start, part_length}
use Rattle.cb_grid.specs.Blocks.{part_with, place_in_part}

-- the rank in row i and column j of a grid: its row
pub row_of_rank : (q i j : ℕ) → j < q → (i * q + j) / q ≡ i
row_of_rank q i j l = div-mul-add i q j l

-- and its column
pub column_of_rank : (q i j : ℕ) → j < q → (i * q + j) % q ≡ j
column_of_rank q i j l =
    let e : (i * q + j) / q ≡ i = row_of_rank q i j l in
    let f : q * ((i * q + j) / q) + (i * q + j) % q ≡ i * q + j = div-add-mod (i * q + j) q in
    let g = rw e at f in
    omega arith

-- the rank of a row and a column of the grid is below the number of ranks
pub rank_below : (q i j : ℕ) → i < q → j < q → i * q + j < q * q
rank_below q i j l m =
    let e : q * (i + 1) ≤ q * q = mul-le-mul_left q (let k : i + 1 ≤ q = omega arith in k) in
    omega arith

-- a rank is the one in its row and column
pub rank_of : (q r : ℕ) → (r / q) * q + r % q ≡ r
rank_of q r = let e : q * (r / q) + r % q ≡ r = div-add-mod r q in omega arith

-- the row of a rank is below the side of the grid
pub row_below : (q r : ℕ) → r < q * q → r / q < q
row_below q r l =
    ⊎_elim
    (λ (k : r / q < q). k)
    (λ (k : q ≤ r / q).
    let m : q * q ≤ q * (r / q) = mul-le-mul_left q k in
    let e : q * (r / q) + r % q ≡ r = div-add-mod r q in
    absurd (omega arith))
    (cases_lt (r / q) q)

module _ (q d : ℕ) (pos : 0 < q) where
  abbrev b : ℕ
  b = div_ceil d q

  covers : d ≤ b * q
  covers = (div_ceil_times d q pos).0

  some_places : (i : ℕ) → i < d → 0 < b
  some_places i l =
      ⊎_elim (λ (k : 0 < b). k) (λ (k : b ≤ 0).
      let e : b ≡ 0 = omega arith in
      let f : b * q ≡ 0 = ap (λ x. x * q) e ∙ omega arith in
      let c = covers in absurd (omega arith)) (cases_lt 0 b)

  whole : (i : ℕ) → b * part_with q d i + place_in_part q d i ≡ i
  whole i = div-add-mod i b

  next : (p : ℕ) → (p + 1) * b ≡ p * b + b
  next p = add-mul p 1 b ∙ ap (λ x. p * b + x) (one-mul b)

  -- each place of the dimension is in one of the q parts
  pub part_below : (i : ℕ) → i < d → part_with q d i < q
  part_below i l =
      ⊎_elim
      (λ (k : part_with q d i < q). k)
      (λ (k : q ≤ part_with q d i).
      let m : b * q ≤ b * part_with q d i = mul-le-mul_left b k in
      let w = whole i in
      let c = covers in
      absurd (omega arith))
      (cases_lt (part_with q d i) q)

  -- the start of the part of a place, and the place in that part, add up to the place
  pub start_there : (i : ℕ) → i < d → part_start q d (part_with q d i) + place_in_part q d i ≡ i
  start_there i l =
      let w = whole i in
      let p = part_with q d i in
      let e : p * b ≡ b * p = omega arith in
      omega arith

  -- the place in the part is below the part's length
  pub place_below : (i : ℕ) → i < d → place_in_part q d i < part_length q d (part_with q d i)
  place_below i l =
      let w = whole i in
      let p = part_with q d i in
      let e : p * b ≡ b * p = omega arith in
      let n = next p in
      let m : place_in_part q d i < b = mod_below i b (some_places i l) in
      omega arith

  -- each place of a part is a place of the dimension
  pub own_below : (p x : ℕ) → x < part_length q d p → part_start q d p + x < d
  own_below p x l = omega arith

  -- the part of a place that is counted from the start of a part is that part
  pub own_part : (p x : ℕ) → x < part_length q d p → part_with q d (part_start q d p + x) ≡ p
  own_part p x l =
      let n = next p in
      let m : x < b = omega arith in
      let e : part_start q d p ≡ p * b = omega arith in
      rw e (div-mul-add p b x m)

  -- a later place is in no earlier part
  pub part_order : (i k : ℕ) → i < d → i ≤ k → part_with q d i ≤ part_with q d k
  part_order i k l m = le-div (part_with q d i) k b (some_places i l) (let e : part_with q d i * b ≤ i = div-mul-le_self i b in omega arith)
