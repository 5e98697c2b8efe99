-- The places of numbers in an ascending list, and a table of them.
use Rattle.std.proofs.Common.{◌≡◌, ◌≢◌, ℕ, ◌^◌, ◌<◌, ◌≤◌, zero, suc, List, length, get_or, ⊎_elim, arith}
use Rattle.std.specs.Prelude.{All, AllPairs}
use Rattle.std.proofs.lemmas.Bool.{cases_eq, cases_lt}
use Rattle.std.proofs.lemmas.List.Elements.{All-get_or, All-from_get_or}
use Rattle.cb_masked.specs.declared.places.TheConstants.{NONE}
use Rattle.cb_masked.specs.PlaceTables.{AreNoted}

-- each number has one place
pub same_place : (xs : List ℕ) (n m : ℕ) → AllPairs (λ a b. a < b) xs → n < length xs → m < length xs → get_or xs n 0 ≡ get_or xs m 0 → n ≡ m
same_place xs n m up ln lm e =
    ⊎_elim
    (λ (b : n < m). let w : get_or xs n 0 < get_or xs m 0 = up n m 0 b lm in absurd (omega arith))
    (λ (b : m ≤ n).
    ⊎_elim
    (λ (t : n ≡ m). t)
    (λ (t : n ≡ m → ⊥). let ne : n ≢ m = t in let w : get_or xs m 0 < get_or xs n 0 = up m n 0 (omega arith) ln in absurd (omega arith))
    (cases_eq n m))
    (cases_lt n m)

-- a number is at least its place
pub place_below : (xs : List ℕ) (n : ℕ) → AllPairs (λ a b. a < b) xs → n < length xs → n ≤ get_or xs n 0
place_below xs zero up l = omega arith
place_below xs (suc n) up l =
    let before : n ≤ get_or xs n 0 = place_below xs n up (omega arith) in
    let less : get_or xs n 0 < get_or xs (suc n) 0 = up n (suc n) 0 (omega arith) l in
    omega arith

-- so a list of numbers below a bound is at most as long as the bound
pub few_below : (xs : List ℕ) (bound : ℕ) → AllPairs (λ a b. a < b) xs → All (λ a. a < bound) xs → length xs ≤ bound
few_below xs bound up below =
    ⊎_elim
    (λ (l : bound < length xs).
    let at : bound ≤ get_or xs bound 0 = place_below xs bound up l in
    let less : get_or xs bound 0 < bound = All-get_or (λ a. a < bound) xs bound 0 l below in
    absurd (omega arith))
    (λ (l : length xs ≤ bound). l)
    (cases_lt bound (length xs))

-- the table holds the places of the numbers before the n-th, and no others
pub record AreNotedSoFar (slots xs : List ℕ) (n : ℕ) : Type 0 where
  pub listed : (m : ℕ) → m < n → m < length xs → get_or xs m 0 < length slots → get_or slots (get_or xs m 0) 0 ≡ m
  pub others : (k : ℕ) → k < length slots → ((m : ℕ) → m < n → m < length xs → get_or xs m 0 ≢ k) → get_or slots k 0 ≡ NONE

-- a cleared table holds no place
pub none_noted : (slots xs : List ℕ) → All (λ x. x ≡ NONE) slots → AreNotedSoFar slots xs 0
none_noted slots xs none = record {
  listed = λ m b l fits. absurd (omega arith);
  others = λ k l h. All-get_or (λ x. x ≡ NONE) slots k 0 l none;
}

-- past the last number, the table holds all places
pub noted_all : (slots xs : List ℕ) (n : ℕ) → length xs < 2 ^ 32 → length xs ≤ n → AreNotedSoFar slots xs n → AreNoted slots xs
noted_all slots xs n few l h = record {
  few = few;
  listed = λ m lm fits. h.listed m (omega arith) lm fits;
  others = λ k lk none. h.others k lk (λ m b lm. none m lm);
}

-- ---- a table that is cleared
-- each slot is cleared, except those of the n-th number and of later ones
abbrev pub AreClearedSoFar : List ℕ → List ℕ → ℕ → Type 0
AreClearedSoFar slots xs n = (k : ℕ) → k < length slots → ((m : ℕ) → n ≤ m → m < length xs → get_or xs m 0 ≢ k) → get_or slots k 0 ≡ NONE

-- past the last number, all slots are cleared
pub cleared_all : (slots xs : List ℕ) (n : ℕ) → length xs ≤ n → AreClearedSoFar slots xs n → All (λ x. x ≡ NONE) slots
cleared_all slots xs n l h = All-from_get_or (λ x. x ≡ NONE) slots 0 (λ k lk. h k lk (λ m b lm. absurd (omega arith)))
