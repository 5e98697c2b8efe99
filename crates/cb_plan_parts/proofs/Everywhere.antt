-- What an operation of each rank does to one slot.
use Rattle.std.proofs.Common.{◌≡◌, ◌≢◌, ℕ, ◌+◌, ◌*◌, ◌<◌, true, false, refl, ◌∙◌, arith}
use Rattle.std.specs.Prelude.{◌==◌, ◌&&◌, nat_lt, nat_le}
use Rattle.std.proofs.lemmas.Bool.Decides.{nat_tests}
use Rattle.cb_plan.specs.declared.acts.Op.{Op}
use Rattle.cb_plan.specs.Meaning.{Algebra, State, meaning, target_of, result_of}
use Rattle.cb_plan.proofs.Effects.{split, each_works}
use Rattle.cb_grid.proofs.Parts.{rank_below}
use Rattle.cb_plan_parts.specs.PlanParts.{each_rank}

same : (n : ℕ) → (n == n) ≡ true
same n = grind (arith, nat_tests)

other : (m n : ℕ) → m ≢ n → (m == n) ≡ false
other m n ne = grind (arith, nat_tests)

module _ {M : Type 0} (ops : Algebra M) (q : ℕ) where
  -- the slot that it sets
  pub each_here : (op : ℕ → Op) (state : State M) (i j : ℕ) → i < q → j < q → meaning ops (each_rank q op) state (i * q + j) (target_of (op (i * q + j))) ≡ result_of ops (op (i * q + j)) (state (i * q + j))
  each_here op state i j p h =
      let l = rank_below q i j p h in
      let t : (nat_le 0 (i * q + j) && nat_lt (i * q + j) (0 + q * q)) ≡ true = grind (arith, nat_tests) in
      each_works ops op 0 (q * q) state (i * q + j) (target_of (op (i * q + j))) ∙ rw (t, same (target_of (op (i * q + j)))) refl

  -- any other slot stays
  pub each_elsewhere : (op : ℕ → Op) (state : State M) (r n : ℕ) → target_of (op r) ≢ n → meaning ops (each_rank q op) state r n ≡ state r n
  each_elsewhere op state r n ne =
      let f : (target_of (op r) == n) ≡ false = other (target_of (op r)) n ne in
      each_works ops op 0 (q * q) state r n ∙ rw f (split (nat_le 0 r && nat_lt r (0 + q * q)) (λ t. rw t refl) (λ t. rw t refl))
