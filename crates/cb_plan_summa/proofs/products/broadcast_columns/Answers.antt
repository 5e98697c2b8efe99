use Rattle.std.proofs.Common.{rules, ◌≡◌, ℕ, ◌+◌, ◌*◌, List, refl, ap, ◌∙◌, arith}
use Rattle.std.proofs.lemmas.Bool.{eq-eqb}
use Rattle.cb_plan_parts.specs.Collectives.{broadcast_acts, is_member}
use Rattle.cb_grid.specs.Parts.{column_group}
use Rattle.cb_plan_parts.specs.PlanParts.{tagged}
use Rattle.cb_plan_summa.specs.Summa.{right_slot, column_broadcast}
use Rattle.cb_plan_parts.proofs.Grid.{in_column}
use Rattle.cb_plan_parts.proofs.LoopGrowth.{refused_next, appended_next}
use Rattle.cb_plan_summa.proofs.products.broadcast_columns.Goals as goal

-- the acts, by what is known of the arguments
same : (q k i : ℕ) (group : List ℕ) (root into : ℕ) → group ≡ column_group q i → root ≡ k * q + i → into ≡ right_slot k → broadcast_acts group root (tagged (2 * k + 1)) 1 into ≡ column_broadcast q k i
same q k i group root into e f g =
    ap (λ xs. broadcast_acts xs root (tagged (2 * k + 1)) 1 into) e
    ∙ ap (λ r. broadcast_acts (column_group q i) r (tagged (2 * k + 1)) 1 into) f
    ∙ ap (broadcast_acts (column_group q i) (k * q + i) (tagged (2 * k + 1)) 1) g

pub broadcast-requires : goal.broadcast-requires
broadcast-requires c =
    let q = c.args.grid.now.side in
    record {
      root = ap (λ xs. is_member xs c.rank-root.result) (c.as_slice.ensures ∙ c.column_group-group.ensures)
          ∙ ap (is_member (column_group q c.loop-j.j)) c.rank-root.ensures
          ∙ in_column q c.args.k c.loop-j.j c.loop-j.j c.requires.stage (let l = c.loop-j-test.true in let m = c.side-j-end.ensures.value in omega arith) (let l = c.loop-j-test.true in let m = c.side-j-end.ensures.value in omega arith)
          ∙ eq-eqb c.loop-j.j c.loop-j.j refl;
    }

pub returns-in_err-broadcast-clause-fault : goal.returns-in_err-broadcast-clause-fault
returns-in_err-broadcast-clause-fault c =
    let q = c.args.grid.now.side in
    let is = same q c.args.k c.loop-j.j _ _ _ (c.as_slice.ensures ∙ c.column_group-group.ensures) c.rank-root.ensures c.right_slot.ensures in
    let l = c.loop-j-test.true in
    let m = c.side-j-end.ensures.value in
    let h = refused_next (column_broadcast q c.args.k) c.loop-j.j c.args.plan.now c.loop-j.plan _ is q _ (omega arith) c.requires.limit c.loop-j.invariant c.in_err-broadcast.ensures.faults in
    let g = c.from_residual.ensures in
    search rules

pub loop-j-preserved : goal.loop-j-preserved
loop-j-preserved c =
    let q = c.args.grid.now.side in
    let is = same q c.args.k c.loop-j.j _ _ _ (c.as_slice.ensures ∙ c.column_group-group.ensures) c.rank-root.ensures c.right_slot.ensures in
    appended_next (column_broadcast q c.args.k) c.loop-j.j c.args.plan.now c.loop-j.plan _ is _ c.loop-j.invariant c.in_ok-broadcast.ensures.ranks c.in_ok-broadcast.ensures.acts
