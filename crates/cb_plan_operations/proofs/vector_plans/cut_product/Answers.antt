use Rattle.std.proofs.Common.{◌≡◌, ℕ, ◌+◌, List, [], ◌∷◌, sym, ap, subst, ◌∙◌, arith}
use Rattle.std.specs.List.{range_with_len, flat_map}
use Rattle.cb_plan.specs.declared.acts.Act.{Act}
use Rattle.cb_plan.specs.declared.acts.Op.TheVariants as op_is
use Rattle.cb_grid.specs.Parts.{part_start}
use Rattle.cb_plan_parts.specs.Growth.{IsWithinLimit, Grew}
use Rattle.cb_plan_operations.specs.VectorPlans.{works, piece_cut}
use Rattle.cb_plan_operations.proofs.Loops.{next_within, next_grew, works_each}
use Rattle.cb_plan_operations.proofs.vector_plans.cut_product.Goals as goal

-- the act, by what is known of the range
same : (q r t rows : ℕ) (range : ℕ × ℕ) → range.0 ≡ part_start q rows t → range.1 ≡ part_start q rows (t + 1) → works r (op_is.Cut 5 range (0, 1) (80 + t) ∷ []) ≡ works r (piece_cut q rows t ∷ [])
same q r t rows range e f = ap (λ first. works r (op_is.Cut 5 (first, range.1) (0, 1) (80 + t) ∷ [])) e ∙ ap (λ last. works r (op_is.Cut 5 (part_start q rows t, last) (0, 1) (80 + t) ∷ [])) f

pub work-requires : goal.work-requires
work-requires c =
    let q = c.args.grid.now.side in
    let r = c.args.rank in
    let is = same q r c.loop-t.t c.args.rows _ c.range.ensures.start c.range.ensures.end in
    let l = c.loop-t-test.true in
    let m = c.side-t-end.ensures.value in
    next_within (λ t. works r (piece_cut q c.args.rows t ∷ [])) c.loop-t.t c.args.plan.now c.loop-t.plan _ is q (omega arith)
    (subst (λ (xs : List Act). IsWithinLimit c.args.plan.now xs) (works_each r (piece_cut q c.args.rows) (range_with_len 0 q)) c.requires) c.loop-t.invariant

pub loop-t-preserved : goal.loop-t-preserved
loop-t-preserved c =
    let q = c.args.grid.now.side in
    let r = c.args.rank in
    let is = same q r c.loop-t.t c.args.rows _ c.range.ensures.start c.range.ensures.end in
    next_grew (λ t. works r (piece_cut q c.args.rows t ∷ [])) c.loop-t.t c.args.plan.now c.loop-t.plan _ is _ c.loop-t.invariant c.in_ok-work.ensures.acts

pub returns-clause-acts : goal.returns-clause-acts
returns-clause-acts c =
    let q = c.args.grid.now.side in
    let r = c.args.rank in
    let last : c.loop-t.t ≡ q = (let l = c.loop-t-test.false in let m = c.side-t-end.ensures.value in omega arith) in
    subst (λ (xs : List Act). Grew xs c.args.plan.now c.loop-t.plan) (ap (λ n. flat_map (λ t. works r (piece_cut q c.args.rows t ∷ [])) (range_with_len 0 n)) last ∙ sym (works_each r (piece_cut q c.args.rows) (range_with_len 0 q))) c.loop-t.invariant
