-- The ranks and mailboxes of a world in which nothing is done.
use Rattle.std.specs.Prelude.{◌≡◌, ◌≢◌, ℕ, ◌<◌, ◌≤◌, ◌+◌, List, [], ◌∷◌, length, vec_capacity}
use Rattle.std.specs.declared.vec.Vec.{Vec}
use Rattle.std.specs.declared.alloc.Global.{Global}
use Rattle.cb_matrix.specs.Sparse.{Sparse}
use Rattle.cb_letters.specs.Lane.{new_lane}
use Rattle.cb_mailbox.specs.Inbox.{Inbox, lane_from}
use Rattle.cb_plan.specs.declared.stores.Slot.{Slot}
use Rattle.cb_plan.specs.Plans.{CheckedView}
use Rattle.cb_rank.specs.Ranks.{RankView, new_rank}
use Rattle.cb_rank_world.specs.Ends.{box_in}

-- a mailbox for each rank, with a new lane from each other rank
pub record AreNewBoxes {P : Type 0} (ranks capacity : ℕ) (boxes : List (Inbox P)) : Type 0 where
  pub size : length boxes ≡ ranks
  pub owners : (t : ℕ) → t < ranks → ((box_in boxes t).me ≡ t) × (length (box_in boxes t).lanes ≡ ranks)
  pub lanes : (f t : ℕ) → f < ranks → t < ranks → f ≢ t → lane_from (box_in boxes t) f ≡ new_lane capacity

-- a new rank for each store, numbered from k on
abbrev pub new_ranks : CheckedView → ℕ → List (List (Slot Sparse)) → List RankView
new_ranks p k [] = []
new_ranks p k (store ∷ stores) = new_rank p k store ∷ new_ranks p (k + 1) stores

-- it is empty, and has room for this many
abbrev pub HasRoomFor : {X : Type 0} → ℕ → Vec X Global → Type 0
HasRoomFor n v = (v.items ≡ []) × (n ≤ vec_capacity v)
