-- How many acts shut all lanes.
use Rattle.std.proofs.Common.{◌≡◌, ℕ, zero, suc, ◌+◌, ◌-◌, ◌*◌, ◌<◌, ◌≤◌, length, length-append, refl, arith}
use Rattle.std.specs.Prelude.{◌==◌, ◌&&◌, nat_le, nat_lt, if◌then◌else◌}
use Rattle.std.specs.List.{range_with_len, flat_map}
use Rattle.std.proofs.lemmas.Bool.Decides.{nat_tests}
use Rattle.cb_plan.specs.Closings.{shut_lane, shut_from, shut_acts}
use Rattle.cb_plan.proofs.Effects.{split}

-- a rank shuts one lane for each rank of a range but itself
shut_in : (from a n : ℕ) → length (flat_map (shut_lane from) (range_with_len a n)) ≡ (if nat_le a from && nat_lt from (a + n) then n - 1 else n)
shut_in from a zero = grind (arith, nat_tests)
shut_in from a (suc n) =
    let h = shut_in from (a + 1) n in
    let x = length-append (shut_lane from a) (flat_map (shut_lane from) (range_with_len (a + 1) n)) in
    split (from == a)
    (λ t. let e : from ≡ a = grind (arith, nat_tests) in let y : length (shut_lane from a) ≡ 0 = rw t refl in grind (arith, nat_tests))
    (λ t. let y : length (shut_lane from a) ≡ 1 = rw t refl in grind (arith, nat_tests))

count_shut_from : (ranks from : ℕ) → from < ranks → length (shut_from ranks from) ≡ ranks - 1
count_shut_from ranks from l = let h = shut_in from 0 ranks in grind (arith, nat_tests)

shut_up_to : (ranks a n : ℕ) → a + n ≤ ranks → length (flat_map (shut_from ranks) (range_with_len a n)) ≡ n * (ranks - 1)
shut_up_to ranks a zero l = omega arith
shut_up_to ranks a (suc n) l =
    let h = shut_up_to ranks (a + 1) n (omega arith) in
    let x = length-append (shut_from ranks a) (flat_map (shut_from ranks) (range_with_len (a + 1) n)) in
    let y = count_shut_from ranks a (omega arith) in
    let z : suc n * (ranks - 1) ≡ (ranks - 1) + n * (ranks - 1) = grind arith in
    omega arith

-- each lane between two ranks is shut once
pub count_shut : (ranks : ℕ) → length (shut_acts ranks) ≡ ranks * (ranks - 1)
count_shut ranks = shut_up_to ranks 0 ranks (omega arith)
