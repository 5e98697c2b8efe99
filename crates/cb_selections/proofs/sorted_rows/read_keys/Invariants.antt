use Rattle.std.proofs.Common.{◌≡◌, ℕ, ◌<◌, ◌/◌, ◌%◌, length, get_or}
use Rattle.cb_selections.specs.declared.sorted_rows.TheConstants.{ENTRIES}
use Rattle.cb_selections.proofs.sorted_rows.read_keys.Given as goal

abbrev pub invariant-loop-n : goal.invariant-loop-n
invariant-loop-n l = record {
  rows_length : length l.kept_rows ≡ length l.initial.kept_rows;
  values_length : length l.kept_values ≡ length l.initial.kept_values;
  rows : (k : ℕ) → k < l.n → get_or l.kept_rows k 0 ≡ get_or l.keys k 0 / ENTRIES;
  values : (k : ℕ) → k < l.n → get_or l.kept_values k 0 ≡ get_or l.values (get_or l.keys k 0 % ENTRIES) 0;
}
