use Rattle.std.proofs.Common.{◌≡◌, ◌≤◌, ◌*◌, ℕ, ◌<◌, take, length, get_or, List}
use Rattle.std.specs.Prelude.{sum_by, count_by}
use Rattle.cb_matrix.specs.Sparse.{Sparse}
use Rattle.cb_plan.specs.declared.stores.Slot.{Slot}
use Rattle.cb_plan.specs.Stores.{is_filled}
use Rattle.cb_plan.proofs.fits.count_filled.Given as goal

abbrev pub invariant-loop-store : goal.invariant-loop-store
invariant-loop-store g l = record {
  count : l.count ≡ sum_by (count_by is_filled) (take l.store-index l.stores);
  limit : l.count ≤ 256 * l.store-index;
  sizes : (k : ℕ) (d : List (Slot Sparse)) → k < l.store-index → length (get_or l.stores k d) ≡ 256;
}
