-- What ranks leave.
use Rattle.std.specs.Prelude.{◌≡◌, ◌≤◌, ℕ, List, [], vec_capacity}
use Rattle.cb_lanes.specs.Desks.{capacity_in, posted_in, taken_in, AreSettledLanes}
use Rattle.cb_rank_runs.specs.declared.finished.Remains.{Remains}
use Rattle.cb_rank_runs.specs.Crews.{Member, desks_of, stores_of, counts_of}
use Rattle.cb_rank_runs.specs.Finished.{FinishedView}

-- nothing was left yet
abbrev pub AreNone : {S : Type 0} → Remains S → Type 0
AreNone r = (r.stores.items ≡ []) × (r.refusals.items ≡ []) × (r.desks.items ≡ [])

-- there is room for what this many ranks leave
abbrev pub HaveRoom : {S : Type 0} → Remains S → ℕ → Type 0
HaveRoom r n = (n ≤ vec_capacity r.stores) × (n ≤ vec_capacity r.refusals) × (n ≤ vec_capacity r.desks)

-- these ranks left the stores, the counts of refusals, and the lanes with their letters. What was taken on a lane is a prefix of
-- what was posted there
pub record IsLeftBy (crew : List Member) (f : FinishedView) : Type 0 where
  pub stores : f.stores ≡ stores_of crew
  pub refusals : f.refusals ≡ counts_of crew
  pub posted : (from to : ℕ) → f.posted from to ≡ posted_in (desks_of crew) from to
  pub taken : (from to : ℕ) → f.taken from to ≡ taken_in (desks_of crew) from to
  pub capacities : (from to : ℕ) → f.capacity from to ≡ capacity_in (desks_of crew) from to
  pub settled : AreSettledLanes (desks_of crew)
