use Rattle.std.proofs.Common.{rules, ◌≡◌, ℕ, ◌+◌, ◌*◌, ◌≤◌, List, length, inl, sym, ap, subst, ◌∙◌, arith}
use Rattle.std.proofs.lemmas.List.FromFn.{length-map-range_with_len}
use Rattle.cb_plan_parts.specs.Collectives.{all_to_all_acts, AreDistinct}
use Rattle.cb_grid.specs.declared.TheConstants.{LARGEST_SIDE}
use Rattle.cb_grid.specs.Parts.{row_group}
use Rattle.cb_plan_parts.proofs.Grid.{row_distinct}
use Rattle.cb_plan_parts.proofs.LoopGrowth.{refused_next, appended_next}
use Rattle.cb_plan_operations.specs.VectorPlans.{exchange_tag, exchange}
use Rattle.cb_plan_operations.proofs.vector_plans.exchange_pieces.Goals as goal

-- how many members a row has
count : (q i n : ℕ) (group : List ℕ) → group ≡ row_group q i → n ≡ q → n ≤ LARGEST_SIDE → length group ≤ LARGEST_SIDE
count q i n group e f l = let g = ap length e ∙ length-map-range_with_len (λ j. i * q + j) 0 q in omega arith

pub all_to_all-requires-clause-distinct : goal.all_to_all-requires-clause-distinct
all_to_all-requires-clause-distinct c =
    let q = c.args.grid.now.side in
    let l = c.loop-i-test.true in
    let m = c.side-i-end.ensures.value in
    subst (λ (xs : List ℕ). AreDistinct xs) (sym (c.as_slice.ensures ∙ c.row_group-group.ensures)) (row_distinct q c.loop-i.i (omega arith))

pub all_to_all-requires-clause-read : goal.all_to_all-requires-clause-read
all_to_all-requires-clause-read c = let n = count c.args.grid.now.side c.loop-i.i c.side-i-end.result _ (c.as_slice.ensures ∙ c.row_group-group.ensures) c.side-i-end.ensures.value c.side-i-end.ensures.limit in omega arith

pub all_to_all-requires-clause-set : goal.all_to_all-requires-clause-set
all_to_all-requires-clause-set c = let n = count c.args.grid.now.side c.loop-i.i c.side-i-end.result _ (c.as_slice.ensures ∙ c.row_group-group.ensures) c.side-i-end.ensures.value c.side-i-end.ensures.limit in omega arith

pub all_to_all-requires-clause-apart : goal.all_to_all-requires-clause-apart
all_to_all-requires-clause-apart c = inl (let n = count c.args.grid.now.side c.loop-i.i c.side-i-end.result _ (c.as_slice.ensures ∙ c.row_group-group.ensures) c.side-i-end.ensures.value c.side-i-end.ensures.limit in omega arith)

pub returns-in_err-all_to_all-clause-fault : goal.returns-in_err-all_to_all-clause-fault
returns-in_err-all_to_all-clause-fault c =
    let q = c.args.grid.now.side in
    let is = ap (λ (xs : List ℕ). all_to_all_acts xs exchange_tag 80 150) (c.as_slice.ensures ∙ c.row_group-group.ensures) in
    let l = c.loop-i-test.true in
    let m = c.side-i-end.ensures.value in
    let h = refused_next (exchange q) c.loop-i.i c.args.plan.now c.loop-i.plan _ is q _ (omega arith) c.requires c.loop-i.invariant c.in_err-all_to_all.ensures.faults in
    let g = c.from_residual.ensures in
    search rules

pub loop-i-preserved : goal.loop-i-preserved
loop-i-preserved c =
    let q = c.args.grid.now.side in
    let is = ap (λ (xs : List ℕ). all_to_all_acts xs exchange_tag 80 150) (c.as_slice.ensures ∙ c.row_group-group.ensures) in
    appended_next (exchange q) c.loop-i.i c.args.plan.now c.loop-i.plan _ is _ c.loop-i.invariant c.in_ok-all_to_all.ensures.ranks c.in_ok-all_to_all.ensures.acts
