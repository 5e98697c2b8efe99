-- Where ranges of columns end, one after another.
use Rattle.std.proofs.Common.{◌≡◌, ℕ, ◌+◌, ◌-◌, ◌<◌, ◌≤◌, List, [], ◌∷◌, ◌++◌, length, get_or, arith, ⊎_elim}
use Rattle.std.specs.Prelude.{All, AllPairs}
use Rattle.std.proofs.lemmas.Bool.{cases_lt}
use Rattle.std.proofs.lemmas.List.{length_push, get_or_push, get_or_past}
use Rattle.std.proofs.lemmas.List.Elements.{All-push, All-weaker, All-get_or}
use Rattle.cb_matrix.proofs.Pairs.{AllPairs-push}
use Rattle.cb_shares.specs.Shares.{AreEnds}

module _ (xs : List ℕ) (cols : ℕ) (up : AllPairs (λ c d. c < d) xs) (within : All (λ c. c < cols) xs) where
  -- the column at a place isn't past the last one
  at_most : (p : ℕ) → get_or xs p cols ≤ cols
  at_most p =
      ⊎_elim
      (λ (l : p < length xs). let h : get_or xs p cols < cols = All-get_or (λ c. c < cols) xs p cols l within in omega arith)
      (λ (l : length xs ≤ p). let e = get_or_past xs p cols l in omega arith)
      (cases_lt p (length xs))

  -- a later place has no earlier column
  at_rises : (p q : ℕ) → p ≤ q → get_or xs p cols ≤ get_or xs q cols
  at_rises p q l =
      ⊎_elim
      (λ (m : q < length xs). ⊎_elim
      (λ (k : p < q). let h : get_or xs p cols < get_or xs q cols = up p q cols k m in omega arith)
      (λ (k : q ≤ p). let e : p ≡ q = omega arith in rw e (omega arith))
      (cases_lt p q))
      (λ (m : length xs ≤ q). let e = get_or_past xs q cols m in let h = at_most p in omega arith)
      (cases_lt q (length xs))

  module _ (ends : List ℕ) (p : ℕ) (before : All (λ c. c ≤ get_or xs p cols) ends) where
    -- one more end, at a later place
    pub before_more : (q : ℕ) → p ≤ q → All (λ c. c ≤ get_or xs q cols) ends
    before_more q l = All-weaker (λ c. c ≤ get_or xs p cols) (λ c. c ≤ get_or xs q cols) (λ c h. let k = at_rises p q l in omega arith) ends before

    pub all_more : (q : ℕ) → p ≤ q → All (λ c. c ≤ get_or xs q cols) (ends ++ get_or xs q cols ∷ [])
    all_more q l = All-push (λ c. c ≤ get_or xs q cols) ends (get_or xs q cols) (before_more q l) (omega arith)

    pub ascends_more : (q : ℕ) → p ≤ q → AllPairs (λ c d. c ≤ d) ends → AllPairs (λ c d. c ≤ d) (ends ++ get_or xs q cols ∷ [])
    ascends_more q l h = AllPairs-push (λ c d. c ≤ d) ends (get_or xs q cols) h (before_more q l)

    -- the last end
    pub all_ends : (count : ℕ) → length ends + 1 ≡ count → AllPairs (λ c d. c ≤ d) ends → AreEnds count cols (ends ++ cols ∷ [])
    all_ends count e h = record {
      as_many = let k = length_push ends cols in omega arith;
      ascending = AllPairs-push (λ c d. c ≤ d) ends cols h (All-weaker (λ c. c ≤ get_or xs p cols) (λ c. c ≤ cols) (λ c k. let m = at_most p in omega arith) ends before);
      last = λ _. get_or_push ends cols 0 (count - 1) (omega arith);
    }
