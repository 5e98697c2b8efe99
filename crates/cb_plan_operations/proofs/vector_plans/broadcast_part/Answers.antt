use Rattle.std.proofs.Common.{rules, ◌≡◌, ℕ, ◌+◌, ◌*◌, List, refl, ap, ◌∙◌, arith}
use Rattle.std.proofs.lemmas.Bool.{eq-eqb}
use Rattle.cb_plan_parts.specs.Collectives.{broadcast_acts, is_member}
use Rattle.cb_grid.specs.Parts.{column_group}
use Rattle.cb_plan_parts.specs.PlanParts.{tagged}
use Rattle.cb_plan_parts.proofs.Grid.{in_column}
use Rattle.cb_plan_parts.proofs.LoopGrowth.{refused_next, appended_next}
use Rattle.cb_plan_operations.specs.VectorPlans.{piece_broadcast}
use Rattle.cb_plan_operations.proofs.vector_plans.broadcast_part.Goals as goal

-- the acts, by what is known of the arguments
same : (q j t : ℕ) (group : List ℕ) (root : ℕ) → group ≡ column_group q j → root ≡ t * q + j → broadcast_acts group root (tagged t) 1 (10 + t) ≡ piece_broadcast q j t
same q j t group root e f = ap (λ xs. broadcast_acts xs root (tagged t) 1 (10 + t)) e ∙ ap (λ r. broadcast_acts (column_group q j) r (tagged t) 1 (10 + t)) f

pub broadcast-requires : goal.broadcast-requires
broadcast-requires c =
    let q = c.args.grid.now.side in
    let l = c.loop-t-test.true in
    let m = c.side-t-end.ensures.value in
    record {
      root = ap (λ xs. is_member xs c.rank-root.result) (c.as_slice.ensures ∙ c.column_group-group.ensures)
          ∙ ap (is_member (column_group q c.args.j)) c.rank-root.ensures
          ∙ in_column q c.loop-t.t c.args.j c.args.j (omega arith) c.requires.column c.requires.column
          ∙ eq-eqb c.args.j c.args.j refl;
    }

pub returns-in_err-broadcast-clause-fault : goal.returns-in_err-broadcast-clause-fault
returns-in_err-broadcast-clause-fault c =
    let q = c.args.grid.now.side in
    let is = same q c.args.j c.loop-t.t _ _ (c.as_slice.ensures ∙ c.column_group-group.ensures) c.rank-root.ensures in
    let l = c.loop-t-test.true in
    let m = c.side-t-end.ensures.value in
    let h = refused_next (piece_broadcast q c.args.j) c.loop-t.t c.args.plan.now c.loop-t.plan _ is q _ (omega arith) c.requires.limit c.loop-t.invariant c.in_err-broadcast.ensures.faults in
    let g = c.from_residual.ensures in
    search rules

pub loop-t-preserved : goal.loop-t-preserved
loop-t-preserved c =
    let q = c.args.grid.now.side in
    let is = same q c.args.j c.loop-t.t _ _ (c.as_slice.ensures ∙ c.column_group-group.ensures) c.rank-root.ensures in
    appended_next (piece_broadcast q c.args.j) c.loop-t.t c.args.plan.now c.loop-t.plan _ is _ c.loop-t.invariant c.in_ok-broadcast.ensures.ranks c.in_ok-broadcast.ensures.acts
