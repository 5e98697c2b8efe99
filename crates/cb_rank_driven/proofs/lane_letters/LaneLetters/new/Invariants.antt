use Rattle.std.proofs.Common.{◌≡◌, [], map, replicate}
use Rattle.cb_rank_driven.proofs.lane_letters.LaneLetters.new.Given as goal

-- as many empty lists as there are ranks so far
abbrev pub invariant-loop : goal.invariant-loop
invariant-loop g l = map (λ v. map (λ s. s.value) v.items) l.lists.items ≡ replicate l.counter []
