use Rattle.std.proofs.Common.{◌≡◌, ℕ, List, ◌++◌, length, take, drop}
use Rattle.std.proofs.lemmas.List.{take_at}

-- a vector after a slice of all of it has been written back
pub written : (n : ℕ) (new old : List ℕ) → length new ≡ n → take n (new ++ drop (length new) old) ≡ new
written n new old e = take_at new (drop (length new) old) n e
