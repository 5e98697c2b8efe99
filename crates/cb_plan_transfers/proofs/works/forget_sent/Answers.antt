use Rattle.std.proofs.Common.{◌≡◌, ℕ, ◌+◌, List, [], ◌∷◌, sym, ap, subst, ◌∙◌, arith}
use Rattle.std.specs.List.{range_with_len, flat_map}
use Rattle.cb_plan.specs.declared.acts.Op.{Op}
use Rattle.cb_plan.specs.declared.acts.Op.TheVariants as op_is
use Rattle.cb_plan.specs.declared.acts.Act.{Act}
use Rattle.cb_plan_parts.specs.Growth.{Grew}
use Rattle.cb_plan_parts.proofs.LoopGrowth.{grew_next}
use Rattle.cb_plan_operations.specs.VectorPlans.{works}
use Rattle.cb_plan_operations.proofs.Loops.{works_each}
use Rattle.cb_plan_transfers.proofs.works.forget_sent.Goals as goal

abbrev forgets : ℕ → Op
forgets k = op_is.Clear (1 + k)

pub loop-k-preserved : goal.loop-k-preserved
loop-k-preserved c = grew_next (λ k. works c.args.rank (forgets k ∷ [])) c.loop-k.k c.args.plan.now c.loop-k.plan _ c.loop-k.invariant c.in_ok-work.ensures.acts

pub returns : goal.returns
returns c =
    let r = c.args.rank in
    let last : c.loop-k.k ≡ c.args.side = (let l = c.loop-k-test.false in omega arith) in
    record {
      acts = subst (λ (xs : List Act). Grew xs c.args.plan.now c.loop-k.plan) (ap (λ n. flat_map (λ k. works r (forgets k ∷ [])) (range_with_len 0 n)) last ∙ sym (works_each r forgets (range_with_len 0 c.args.side))) c.loop-k.invariant;
    }
