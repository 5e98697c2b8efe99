-- The acts that shut all lanes. A plan that ends with them doesn't store them.
use Rattle.std.specs.Prelude.{ℕ, Bool, ◌==◌, if◌then◌else◌, List, [], ◌∷◌, flat_map}
use Rattle.std.specs.List.{range_with_len}
use Rattle.cb_plan.specs.declared.acts.Act.{Act}
use Rattle.cb_plan.specs.declared.acts.Act.TheVariants as act_is

-- the lane between two ranks is shut; a rank has none to itself
abbrev pub shut_lane : ℕ → ℕ → List Act
shut_lane from to = if from == to then [] else act_is.Shut from to ∷ []

-- the lanes from a rank to each other rank are shut
abbrev pub shut_from : ℕ → ℕ → List Act
shut_from ranks from = flat_map (shut_lane from) (range_with_len 0 ranks)

abbrev pub shut_acts : ℕ → List Act
shut_acts ranks = flat_map (shut_from ranks) (range_with_len 0 ranks)

-- the acts after those that a plan stores: if it closes, all lanes are shut
abbrev pub closings : ℕ → Bool → List Act
closings ranks closes = if closes then shut_acts ranks else []
