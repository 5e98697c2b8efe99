use Rattle.std.proofs.Common.{◌≡◌, ◌≤◌, length}
use Rattle.std.specs.Prelude.{vec_capacity}
use Rattle.cb_selections.proofs.column_places.places_of_columns.Given as goal

abbrev pub invariant-loop-n : goal.invariant-loop-n
invariant-loop-n g l = record {
  as_many : length l.places.items ≡ l.n;
  room : length l.columns ≤ vec_capacity l.places;
}
