use Rattle.std.proofs.Common.{List, [], ◌∷◌, sym, subst}
use Rattle.std.proofs.lemmas.List.{map-append}
use Rattle.cb_plan.specs.declared.acts.Act.{Act}
use Rattle.cb_plan.specs.declared.acts.Act.TheVariants as act_is
use Rattle.cb_plan.specs.declared.acts.Op.TheVariants as op_is
use Rattle.cb_plan_parts.specs.Growth.{Grew}
use Rattle.cb_plan_parts.proofs.LoopGrowth.{grew_both}
use Rattle.cb_plan_operations.specs.VectorPlans.{works}
use Rattle.cb_plan_transfers.specs.Rounds.{column_cuts}
use Rattle.cb_plan_transfers.proofs.works.give_away.Goals as goal

pub returns : goal.returns
returns c =
    let r = c.args.rank in
    let cuts = column_cuts c.args.grid.now.side c.args.block in
    let clear = op_is.Clear 0 ∷ [] in
    record {
      acts = subst (λ (xs : List Act). Grew xs c.args.plan.now c.work.new.plan) (sym (map-append (λ op. act_is.Work r op) cuts clear))
          (grew_both (works r cuts) (works r clear) c.args.plan.now c.cut_columns.new.plan c.work.new.plan c.in_ok-cut_columns.ensures.acts c.in_ok-work.ensures.acts);
    }
