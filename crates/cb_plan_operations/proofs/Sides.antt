-- The side of a grid, by the number of its ranks.
use Rattle.std.proofs.Common.{◌≡◌, ℕ, zero, suc, ◌+◌, ◌*◌, ◌<◌, ◌≤◌, arith, ⊎_elim}
use Rattle.std.proofs.lemmas.Bool.{cases_lt}
use Rattle.std.proofs.lemmas.Nat.{mul-le}
use Rattle.cb_grid.specs.declared.TheConstants.{LARGEST_SIDE}
use Rattle.cb_plan_parts.proofs.Lengths.{most_ranks}

-- a grid that has ranks has a side above 0
pub side_above : (q n : ℕ) → n ≡ q * q → 1 ≤ n → 0 < q
side_above zero n e some = absurd (omega arith)
side_above (suc q) n e some = omega arith

-- a grid with at most the most ranks has at most the largest side
pub side_within : (q n : ℕ) → n ≡ q * q → n ≤ most_ranks → q ≤ LARGEST_SIDE
side_within q n e limit =
    ⊎_elim
    (λ (below : q < LARGEST_SIDE + 1). omega arith)
    (λ (above : LARGEST_SIDE + 1 ≤ q).
    let square : (LARGEST_SIDE + 1) * (LARGEST_SIDE + 1) ≤ q * q = mul-le (LARGEST_SIDE + 1) (LARGEST_SIDE + 1) q q above above in
    absurd (omega arith))
    (cases_lt q (LARGEST_SIDE + 1))
