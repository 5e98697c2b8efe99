-- How many digits a number has in decimal.
use Rattle.std.proofs.Common.{◌≡◌, ℕ, ◌+◌, ◌/◌, ◌%◌, ◌∷◌, ◌++◌, [], ◌<◌, ◌≤◌, ◌^◌, ap, arith, length, length-append, sym, ◌∙◌}
use Rattle.std.specs.Prelude.{decimal}
use Rattle.std.proofs.lemmas.Fmt.{decimal_digit, decimal_step, decimal_step_wide}

-- a number below ten has one
pub has_one : (n : ℕ) → n < 10 → length (decimal n) ≡ 1
has_one n h = ap length (decimal_digit n h)

-- a longer one has one more than its tenth
pub digit_more : (n : ℕ) → 10 ≤ n → n < 2 ^ 64 → length (decimal n) ≡ length (decimal (n / 10)) + 1
digit_more n h k = ap length (decimal_step n h k) ∙ length-append (decimal (n / 10)) ((48 + n % 10) ∷ [])

-- four more than the number without its last four
pub four_more : (n : ℕ) → 10000 ≤ n → n < 2 ^ 64 → length (decimal n) ≡ length (decimal (n / 10000)) + 4
four_more n h k =
    let a = n / 10 in
    let b = a / 10 in
    let c = b / 10 in
    let d = c / 10 in
    let e : d ≡ n / 10000 = omega arith in
    let ea = digit_more n (omega arith) k in
    let eb = digit_more a (omega arith) (omega arith) in
    let ec = digit_more b (omega arith) (omega arith) in
    let ed = digit_more c (omega arith) (omega arith) in
    let ee = ap (λ m. length (decimal m)) e in
    omega (arith, ea, eb, ec, ed, ee)

-- a number from 10 to 99 has two
pub has_two : (n : ℕ) → 10 ≤ n → n < 100 → length (decimal n) ≡ 2
has_two n h k =
    let e = digit_more n h (omega arith) in
    let f = has_one (n / 10) (omega arith) in
    omega (arith, e, f)

-- a number from 100 to 999 has three
pub has_three : (n : ℕ) → 100 ≤ n → n < 1000 → length (decimal n) ≡ 3
has_three n h k =
    let e = digit_more n (omega arith) (omega arith) in
    let f = has_two (n / 10) (omega arith) (omega arith) in
    omega (arith, e, f)

-- a number from 1,000 to 9,999 has four
pub has_four : (n : ℕ) → 1000 ≤ n → n < 10000 → length (decimal n) ≡ 4
has_four n h k =
    let e = digit_more n (omega arith) (omega arith) in
    let f = has_three (n / 10) (omega arith) (omega arith) in
    omega (arith, e, f)

-- the number after the last one of 64 bits ends in 6
pub past_last : (n : ℕ) → n ≡ 18446744073709551615 → decimal (n / 10) ++ 54 ∷ [] ≡ decimal (n + 1)
past_last n e = rw e (sym (decimal_step_wide 18446744073709551616 (omega arith) (omega arith)))
