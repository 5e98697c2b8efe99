use Rattle.std.proofs.Common.{◌≡◌, ◌≤◌, length, take}
use Rattle.cb_selections.proofs.RowKeys.{AreKeysTo}
use Rattle.cb_selections.proofs.sorted_rows.write_keys.Given as goal

abbrev pub invariant-loop-n : goal.invariant-loop-n
invariant-loop-n l = record { so_far : AreKeysTo l.listed l.rows l.n (take l.count l.keys); few : l.count ≤ l.n; room : length l.keys ≡ length l.initial.keys }
