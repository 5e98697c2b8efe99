-- Acts that pass the check and shut no lane: lists of them, an operation of each rank, and that all lanes are shut in the end.
use Rattle.std.proofs.Common.{◌≡◌, ℕ, zero, suc, ◌+◌, ◌*◌, ◌/◌, ◌%◌, ◌<◌, ◌≤◌, true, false, List, ◌∷◌, ◌++◌, map, refl, sym, ap, subst, ◌∙◌, arith}
use Rattle.std.specs.Prelude.{Option, None, ◌==◌, nat_lt, flat_map}
use Rattle.std.specs.List.{range_with_len}
use Rattle.std.proofs.lemmas.Bool.Decides.{nat_tests}
use Rattle.std.proofs.lemmas.Nat.{mod_below}
use Rattle.cb_matrix.specs.Sparse.{Extent}
use Rattle.cb_plan.specs.declared.acts.Op.{Op}
use Rattle.cb_plan.specs.declared.acts.Act.{Act}
use Rattle.cb_plan.specs.declared.acts.Act.TheVariants as act_is
use Rattle.cb_plan.specs.Meaning.{State, act, meaning, target_of}
use Rattle.cb_plan.specs.Algebras.{shapes}
use Rattle.cb_plan.specs.declared.acts.Start.{Start}
use Rattle.cb_plan.specs.Checks.{Lanes, IsSound, Passes, lanes_after, none_shut, started, plan_fault, are_all_shut, all_below, all_filled, operands_of, shapes_agree}
use Rattle.cb_plan.proofs.PassingActs.{passes-append, lanes_after-append, passes_check}
use Rattle.cb_grid.proofs.Parts.{rank_of, row_below}
use Rattle.cb_plan_parts.specs.Collectives.{shut_acts}
use Rattle.cb_plan.proofs.ShutCheck.{shut_acts_pass, all_shut_after}
use Rattle.cb_plan_parts.specs.PlanParts.{each_rank}
use Rattle.cb_plan_parts.specs.Flows.{Flows}

-- two lists of acts, the second after what the first leaves
pub flows-append : (ranks : ℕ) (shut : Lanes) (state : State Extent) (xs ys : List Act) → Flows ranks shut state xs → Flows ranks shut (meaning shapes xs state) ys → Flows ranks shut state (xs ++ ys)
flows-append ranks shut state xs ys h k = record {
  passes = passes-append ranks state shut xs ys h.passes (subst (λ l. Passes ranks (meaning shapes xs state) l ys) (sym h.lanes) k.passes);
  lanes = lanes_after-append xs ys shut ∙ ap (lanes_after ys) h.lanes ∙ k.lanes;
}

-- acts for each number of a range, if what holds before those of one number holds after them for the next
pub flows_each : (ranks : ℕ) (shut : Lanes) (f : ℕ → List Act) (P : ℕ → State Extent → Type 0) (last : ℕ) →
    ((k : ℕ) (state : State Extent) → k < last → P k state → Flows ranks shut state (f k) × P (k + 1) (meaning shapes (f k) state)) →
    (k n : ℕ) (state : State Extent) → k + n ≡ last → P k state → Flows ranks shut state (flat_map f (range_with_len k n))
flows_each ranks shut f P last one k zero state e at = record { passes = tt; lanes = refl }
flows_each ranks shut f P last one k (suc n) state e at =
    let step = one k state (omega arith) at in
    flows-append ranks shut state (f k) (flat_map f (range_with_len (k + 1) n)) step.0 (flows_each ranks shut f P last one (k + 1) n (meaning shapes (f k) state) (omega arith) step.1)

-- an operation that has what it asks for among the slots of its rank
pub record CanWork (ranks rank : ℕ) (slots : ℕ → Option Extent) (op : Op) : Type 0 where
  pub exists : rank < ranks
  pub slots_exist : all_below 256 (target_of op ∷ operands_of op) ≡ true
  pub filled : all_filled slots (operands_of op) ≡ true
  pub agree : shapes_agree slots op ≡ true

-- an operation that has what it asks for is sound
pub work_is_sound : (ranks rank : ℕ) (state : State Extent) (shut : Lanes) (op : Op) → CanWork ranks rank (state rank) op → IsSound ranks state shut (act_is.Work rank op)
work_is_sound ranks rank state shut op h = record {
  ranks_exist = let l = h.exists in let x : nat_lt rank ranks ≡ true = grind (arith, nat_tests) in rw x refl;
  apart = refl;
  slots_exist = h.slots_exist;
  filled = h.filled;
  agree = h.agree;
  open_lane = refl;
}

-- an operation at each rank, if each rank can do its own
pub works_flow : (ranks : ℕ) (shut : Lanes) (op : ℕ → Op) (a n : ℕ) (state : State Extent) → ((k : ℕ) → a ≤ k → k < a + n → CanWork ranks k (state k) (op k)) → Flows ranks shut state (map (λ k. act_is.Work k (op k)) (range_with_len a n))
works_flow ranks shut op a zero state each = record { passes = tt; lanes = refl }
works_flow ranks shut op a (suc n) state each =
    let next = act shapes (act_is.Work a (op a)) state in
    let same : (k : ℕ) → a + 1 ≤ k → next k ≡ state k = λ k l i x. (let f : (a == k) ≡ false = grind (arith, nat_tests) in let h : next k x ≡ state k x = rw f refl in h) i in
    let rest = works_flow ranks shut op (a + 1) n next (λ k l m. subst (λ slots. CanWork ranks k slots (op k)) (sym (same k l)) (each k (omega arith) (omega arith))) in
    record { passes = (work_is_sound ranks a state shut (op a) (each a (omega arith) (omega arith)), rest.passes); lanes = rest.lanes }

-- the same by rows and columns of the grid
pub each_flows : (q : ℕ) → 0 < q → (shut : Lanes) (op : ℕ → Op) (state : State Extent) → ((i j : ℕ) → i < q → j < q → CanWork (q * q) (i * q + j) (state (i * q + j)) (op (i * q + j))) → Flows (q * q) shut state (each_rank q op)
each_flows q pos shut op state can = works_flow (q * q) shut op 0 (q * q) state (λ r _ l.
    subst (λ x. CanWork (q * q) x (state x) (op x)) (rank_of q r) (can (r / q) (r % q) (row_below q r (omega arith)) (mod_below r q pos)))

-- acts that shut no lane, and then all lanes: a plan without a fault
pub flows_check : (ranks : ℕ) (starts : List Start) (acts : List Act) → Flows ranks none_shut (started starts) acts → plan_fault ranks starts (acts ++ shut_acts ranks) ≡ None
flows_check ranks starts acts flow =
    let lanes : Lanes = lanes_after acts none_shut in
    let is_open : (s t : ℕ) → lanes s t ≡ false = λ s t. ap (λ l. l s t) flow.lanes in
    passes_check ranks 0 (started starts) none_shut (acts ++ shut_acts ranks)
    (passes-append ranks (started starts) none_shut acts (shut_acts ranks) flow.passes (shut_acts_pass ranks (meaning shapes acts (started starts)) lanes is_open))
    (ap (are_all_shut ranks) (lanes_after-append acts (shut_acts ranks) none_shut) ∙ all_shut_after ranks lanes)
