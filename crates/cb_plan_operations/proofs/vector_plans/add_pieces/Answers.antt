use Rattle.std.proofs.Common.{◌≡◌, ℕ, ◌+◌, List, [], ◌∷◌, sym, ap, subst, ◌∙◌, arith}
use Rattle.std.specs.List.{range_with_len, flat_map}
use Rattle.cb_matrix.specs.Sparse.{Extent}
use Rattle.cb_plan.specs.declared.acts.Act.{Act}
use Rattle.cb_plan.specs.declared.acts.Op.TheVariants as op_is
use Rattle.cb_grid.specs.Parts.{part_start}
use Rattle.cb_plan_parts.specs.Growth.{IsWithinLimit, Grew}
use Rattle.cb_plan_operations.specs.VectorPlans.{works, add_piece}
use Rattle.cb_plan_operations.proofs.Loops.{next_within, next_grew, works_lists}
use Rattle.cb_plan_operations.proofs.vector_plans.add_pieces.Goals as goal

-- the acts, by what is known of the place
same : (q r t : ℕ) (part : Extent) (start rows : ℕ) → rows ≡ part.rows → start ≡ part_start q rows t → works r (op_is.Place (10 + t) part (start, 0) 4 ∷ op_is.Add 3 4 3 ∷ []) ≡ works r (add_piece q part t)
same q r t part start rows e f = ap (λ x. works r (op_is.Place (10 + t) part (x, 0) 4 ∷ op_is.Add 3 4 3 ∷ [])) (f ∙ ap (λ d. part_start q d t) e)

pub work-requires : goal.work-requires
work-requires c =
    let q = c.args.grid.now.side in
    let r = c.args.rank in
    let is = same q r c.loop-t.t c.args.part _ _ c.rows.ensures.value c.range-start.ensures.start in
    let l = c.loop-t-test.true in
    let m = c.side-t-end.ensures.value in
    next_within (λ t. works r (add_piece q c.args.part t)) c.loop-t.t c.args.plan.now c.loop-t.plan _ is q (omega arith)
    (subst (λ (xs : List Act). IsWithinLimit c.args.plan.now xs) (works_lists r (add_piece q c.args.part) (range_with_len 0 q)) c.requires) c.loop-t.invariant

pub loop-t-preserved : goal.loop-t-preserved
loop-t-preserved c =
    let q = c.args.grid.now.side in
    let r = c.args.rank in
    let is = same q r c.loop-t.t c.args.part _ _ c.rows.ensures.value c.range-start.ensures.start in
    next_grew (λ t. works r (add_piece q c.args.part t)) c.loop-t.t c.args.plan.now c.loop-t.plan _ is _ c.loop-t.invariant c.in_ok-work.ensures.acts

pub returns-clause-acts : goal.returns-clause-acts
returns-clause-acts c =
    let q = c.args.grid.now.side in
    let r = c.args.rank in
    let last : c.loop-t.t ≡ q = (let l = c.loop-t-test.false in let m = c.side-t-end.ensures.value in omega arith) in
    subst (λ (xs : List Act). Grew xs c.args.plan.now c.loop-t.plan) (ap (λ n. flat_map (λ t. works r (add_piece q c.args.part t)) (range_with_len 0 n)) last ∙ sym (works_lists r (add_piece q c.args.part) (range_with_len 0 q))) c.loop-t.invariant
