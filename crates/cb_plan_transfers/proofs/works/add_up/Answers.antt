use Rattle.std.proofs.Common.{◌≡◌, ◌-◌, List, [], ◌∷◌, sym, ap, subst, ◌∙◌, arith}
use Rattle.std.specs.List.{range_with_len, flat_map}
use Rattle.cb_plan.specs.declared.acts.Act.{Act}
use Rattle.cb_plan_parts.specs.Growth.{Grew}
use Rattle.cb_plan_parts.proofs.LoopGrowth.{grew_next}
use Rattle.cb_plan_operations.specs.VectorPlans.{works}
use Rattle.cb_plan_operations.proofs.Loops.{works_each}
use Rattle.cb_plan_transfers.specs.Rounds.{add_to}
use Rattle.cb_plan_transfers.proofs.works.add_up.Goals as goal

pub loop-k-preserved : goal.loop-k-preserved
loop-k-preserved c = grew_next (λ k. works c.args.rank (add_to c.args.first k ∷ [])) c.loop-k.k c.args.plan.now c.loop-k.plan _ c.loop-k.invariant c.in_ok-work.ensures.acts

pub returns : goal.returns
returns c =
    let r = c.args.rank in
    let f = add_to c.args.first in
    let last : c.loop-k.k ≡ c.args.count - 1 = (let l = c.loop-k-test.false in omega arith) in
    record {
      acts = subst (λ (xs : List Act). Grew xs c.args.plan.now c.loop-k.plan) (ap (λ n. flat_map (λ k. works r (f k ∷ [])) (range_with_len 0 n)) last ∙ sym (works_each r f (range_with_len 0 (c.args.count - 1)))) c.loop-k.invariant;
    }
