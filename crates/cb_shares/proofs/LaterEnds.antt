-- Ends of ranges, of which each is at or after those before it.
use Rattle.std.proofs.Common.{◌≡◌, ℕ, ◌+◌, ◌-◌, ◌≤◌, List, [], ◌∷◌, ◌++◌, length, arith}
use Rattle.std.specs.Prelude.{All, AllPairs}
use Rattle.std.proofs.lemmas.List.{length_push, get_or_push}
use Rattle.std.proofs.lemmas.List.Elements.{All-push, All-weaker}
use Rattle.cb_matrix.proofs.Pairs.{AllPairs-push}
use Rattle.cb_shares.specs.Shares.{AreEnds}

module _ (ends : List ℕ) (last next : ℕ) (rises : last ≤ next) (before : All (λ c. c ≤ last) ends) where
  later : All (λ c. c ≤ next) ends
  later = All-weaker (λ c. c ≤ last) (λ c. c ≤ next) (λ c h. omega arith) ends before

  -- one more end, none of which is past it
  pub ends_before : All (λ c. c ≤ next) (ends ++ next ∷ [])
  ends_before = All-push (λ c. c ≤ next) ends next later (omega arith)

  pub ends_more : AllPairs (λ c d. c ≤ d) ends → AllPairs (λ c d. c ≤ d) (ends ++ next ∷ [])
  ends_more h = AllPairs-push (λ c d. c ≤ d) ends next h later

-- the end of all columns is the last one
pub ends_all : (ends : List ℕ) (last cols count : ℕ) → length ends + 1 ≡ count → last ≤ cols → All (λ c. c ≤ last) ends → AllPairs (λ c d. c ≤ d) ends → AreEnds count cols (ends ++ cols ∷ [])
ends_all ends last cols count e l before h = record {
  as_many = let k = length_push ends cols in omega arith;
  ascending = ends_more ends last cols l before h;
  last = λ _. get_or_push ends cols 0 (count - 1) (omega arith);
}
