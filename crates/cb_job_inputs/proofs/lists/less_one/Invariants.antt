use Rattle.std.proofs.Common.{◌≡◌, ◌-◌, ◌<◌, ◌≤◌, length, map, take, vec_len, vec_capacity}
use Rattle.std.specs.Prelude.{All}
use Rattle.cb_job_inputs.proofs.lists.less_one.Given as goal

-- the numbers so far, and room for all
abbrev pub invariant-loop-value : goal.invariant-loop-value
invariant-loop-value l =
    (l.numbers.items ≡ map (λ x. x - 1) (take l.value-index l.values))
    × All (λ i. i < l.limit) l.numbers.items
    × (vec_len l.numbers ≡ l.value-index)
    × (length l.values ≤ vec_capacity l.numbers)
