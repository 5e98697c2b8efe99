use Rattle.std.proofs.Common.{rules, ◌≡◌, ℕ, ◌+◌, ◌*◌, List, refl, ap, ◌∙◌, arith}
use Rattle.std.proofs.lemmas.Bool.{eq-eqb}
use Rattle.cb_plan_parts.specs.Collectives.{broadcast_acts, is_member}
use Rattle.cb_grid.specs.Parts.{row_group}
use Rattle.cb_plan_parts.specs.PlanParts.{tagged}
use Rattle.cb_plan_summa.specs.Summa.{left_slot, row_broadcast}
use Rattle.cb_plan_parts.proofs.Grid.{in_row}
use Rattle.cb_plan_parts.proofs.LoopGrowth.{refused_next, appended_next}
use Rattle.cb_plan_summa.proofs.products.broadcast_rows.Goals as goal

-- the acts, by what is known of the arguments
same : (q k i : ℕ) (group : List ℕ) (root into : ℕ) → group ≡ row_group q i → root ≡ i * q + k → into ≡ left_slot k → broadcast_acts group root (tagged (2 * k)) 0 into ≡ row_broadcast q k i
same q k i group root into e f g =
    ap (λ xs. broadcast_acts xs root (tagged (2 * k)) 0 into) e
    ∙ ap (λ r. broadcast_acts (row_group q i) r (tagged (2 * k)) 0 into) f
    ∙ ap (broadcast_acts (row_group q i) (i * q + k) (tagged (2 * k)) 0) g

pub broadcast-requires : goal.broadcast-requires
broadcast-requires c =
    let q = c.args.grid.now.side in
    record {
      root = ap (λ xs. is_member xs c.rank-root.result) (c.as_slice.ensures ∙ c.row_group-group.ensures)
          ∙ ap (is_member (row_group q c.loop-i.i)) c.rank-root.ensures
          ∙ in_row q c.loop-i.i c.args.k c.loop-i.i c.requires.stage
          ∙ eq-eqb c.loop-i.i c.loop-i.i refl;
    }

pub returns-in_err-broadcast-clause-fault : goal.returns-in_err-broadcast-clause-fault
returns-in_err-broadcast-clause-fault c =
    let q = c.args.grid.now.side in
    let is = same q c.args.k c.loop-i.i _ _ _ (c.as_slice.ensures ∙ c.row_group-group.ensures) c.rank-root.ensures c.left_slot.ensures in
    let l = c.loop-i-test.true in
    let m = c.side-i-end.ensures.value in
    let h = refused_next (row_broadcast q c.args.k) c.loop-i.i c.args.plan.now c.loop-i.plan _ is q _ (omega arith) c.requires.limit c.loop-i.invariant c.in_err-broadcast.ensures.faults in
    let g = c.from_residual.ensures in
    search rules

pub loop-i-preserved : goal.loop-i-preserved
loop-i-preserved c =
    let q = c.args.grid.now.side in
    let is = same q c.args.k c.loop-i.i _ _ _ (c.as_slice.ensures ∙ c.row_group-group.ensures) c.rank-root.ensures c.left_slot.ensures in
    appended_next (row_broadcast q c.args.k) c.loop-i.i c.args.plan.now c.loop-i.plan _ is _ c.loop-i.invariant c.in_ok-broadcast.ensures.ranks c.in_ok-broadcast.ensures.acts
