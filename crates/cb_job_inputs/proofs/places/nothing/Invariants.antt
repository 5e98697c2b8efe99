use Rattle.std.proofs.Common.{◌≡◌, ◌≤◌, None}
use Rattle.std.specs.Prelude.{All, vec_len, vec_capacity}
use Rattle.cb_job_inputs.proofs.places.nothing.Given as goal

-- the places so far have nothing, and there is room for all
abbrev pub invariant-loop : goal.invariant-loop
invariant-loop g l =
    (vec_len l.places ≡ l.counter)
    × (l.count ≤ vec_capacity l.places)
    × All (λ o. o ≡ None) l.places.items
