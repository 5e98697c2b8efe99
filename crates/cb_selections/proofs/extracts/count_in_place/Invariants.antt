use Rattle.std.proofs.Common.{◌≡◌, ℕ, ◌<◌, ◌≤◌, get_or}
use Rattle.cb_selections.proofs.extracts.count_in_place.Given as goal

abbrev pub invariant-loop-n : goal.invariant-loop-n
invariant-loop-n l = record {
  within : l.count ≤ l.n;
  all : l.count ≡ l.n → (i : ℕ) → i < l.n → get_or l.numbers i 0 ≡ i;
}
