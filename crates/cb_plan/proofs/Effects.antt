-- What lists of acts do.
use Rattle.std.proofs.Common.{◌≡◌, ℕ, zero, suc, ◌+◌, Bool, true, false, List, [], ◌∷◌, ◌++◌, map, refl, ap, ◌∙◌, arith}
use Rattle.std.specs.Prelude.{◌==◌, ◌&&◌, if◌then◌else◌, flat_map, nat_lt, nat_le}
use Rattle.std.specs.List.{range_with_len}
use Rattle.std.proofs.lemmas.Bool.Decides.{nat_tests}
use Rattle.cb_plan.specs.declared.acts.Op.{Op}
use Rattle.cb_plan.specs.declared.acts.Act.{Act}
use Rattle.cb_plan.specs.declared.acts.Act.TheVariants as act_is
use Rattle.cb_plan.specs.Meaning.{Algebra, State, act, meaning, target_of, result_of}

-- a statement that holds whether or not a test does holds
pub split : {P : Type 0} (b : Bool) → (b ≡ true → P) → (b ≡ false → P) → P
split true t f = t refl
split false t f = f refl

-- states are equal if their slots are
pub same_state : {M : Type 0} (x y : State M) → ((r n : ℕ) → x r n ≡ y r n) → x ≡ y
same_state x y h = λ i r n. h r n i

-- what two lists of acts mean, one after another
pub meaning-append : {M : Type 0} (ops : Algebra M) (xs ys : List Act) (state : State M) → meaning ops (xs ++ ys) state ≡ meaning ops ys (meaning ops xs state)
meaning-append ops [] ys state = refl
meaning-append ops (x ∷ xs) ys state = meaning-append ops xs ys (act ops x state)

-- acts that do nothing, one after another
pub nothing_each : {M X : Type 0} (ops : Algebra M) (f : X → List Act) (state : State M) → ((x : X) → meaning ops (f x) state ≡ state) → (xs : List X) → meaning ops (flat_map f xs) state ≡ state
nothing_each ops f state h [] = refl
nothing_each ops f state h (x ∷ xs) = meaning-append ops (f x) (flat_map f xs) state ∙ ap (meaning ops (flat_map f xs)) (h x) ∙ nothing_each ops f state h xs

-- ranks a to a+m-1 do an operation each
abbrev pub worked : {M : Type 0} → Algebra M → (ℕ → Op) → ℕ → ℕ → State M → State M
worked ops op a m state r n = if (nat_le a r && nat_lt r (a + m)) && target_of (op r) == n then result_of ops (op r) (state r) else state r n

-- what that means
pub each_works : {M : Type 0} (ops : Algebra M) (op : ℕ → Op) (a m : ℕ) (state : State M) (r n : ℕ) →
    meaning ops (map (λ k. act_is.Work k (op k)) (range_with_len a m)) state r n ≡ worked ops op a m state r n
each_works ops op a zero state r n = grind (arith, nat_tests)
each_works ops op a (suc m) state r n =
    let rest = each_works ops op (a + 1) m (act ops (act_is.Work a (op a)) state) r n in
    rest ∙ split (a == r)
    (λ t.
    let e : a ≡ r = grind (arith, nat_tests) in
    let f : (nat_le (a + 1) r && nat_lt r (a + 1 + m)) ≡ false = grind (arith, nat_tests) in
    let g : (nat_le a r && nat_lt r (a + suc m)) ≡ true = grind (arith, nat_tests) in
    rw (f, g, t) (rw e refl))
    (λ t.
    let g : (nat_le a r && nat_lt r (a + suc m)) ≡ (nat_le (a + 1) r && nat_lt r (a + 1 + m)) = grind (arith, nat_tests) in
    let same : act ops (act_is.Work a (op a)) state r ≡ state r = λ i k. (let h : act ops (act_is.Work a (op a)) state r k ≡ state r k = rw t refl in h) i in
    rw g (ap (λ slots. if (nat_le (a + 1) r && nat_lt r (a + 1 + m)) && target_of (op r) == n then result_of ops (op r) slots else slots n) same))
