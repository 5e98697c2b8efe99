use Rattle.std.proofs.Common.{◌≡◌, ◌+◌, ◌*◌, ◌++◌, List, sym, subst, ◌∙◌}
use Rattle.cb_plan.specs.declared.acts.Act.{Act}
use Rattle.cb_plan_parts.specs.Collectives.{shut_acts}
use Rattle.cb_plan_parts.specs.PlanParts.{tagged}
use Rattle.cb_plan_parts.proofs.LoopGrowth.{grew_all, grew_both}
use Rattle.cb_plan_operations.specs.VectorPlans.{each_works}
use Rattle.cb_plan_operations.proofs.Sides.{side_above}
use Rattle.cb_plan_transfers.specs.Rounds.{column_exchanges}
use Rattle.cb_plan_transfers.specs.Panels.{IsPanelsPlan, cuts_at, joined_at, panels_acts}
use Rattle.cb_plan_transfers.proofs.PanelsMeaning.{is_panels_plan}
use Rattle.cb_plan_transfers.proofs.panels.panels_plan.Goals as goal

pub checked-requires-clause-ranks : goal.checked-requires-clause-ranks
checked-requires-clause-ranks c =
    c.in_ok-shut_all.ensures.ranks
    ∙ c.in_ok-join_all.ensures.acts.ranks_are
    ∙ c.in_ok-exchange_in_columns.ensures.acts.ranks_are
    ∙ c.in_ok-cut_blocks.ensures.acts.ranks_are
    ∙ c.new-plan.ensures.ranks
    ∙ c.ranks.ensures.value

pub returns-clause-acts : goal.returns-clause-acts
returns-clause-acts c =
    let q = c.args.grid.now.side in
    let shape = c.args.shape in
    let n = c.ranks.ensures.value in
    let cuts = each_works q (cuts_at q shape) in
    let sent = column_exchanges q (tagged 1) in
    let joins = each_works q (joined_at q shape) in
    let whole = grew_both cuts (sent ++ joins) c.new-plan.result c.cut_blocks.new.plan c.join_all.new.plan c.in_ok-cut_blocks.ensures.acts
    (grew_both sent joins c.cut_blocks.new.plan c.exchange_in_columns.new.plan c.join_all.new.plan c.in_ok-exchange_in_columns.ensures.acts c.in_ok-join_all.ensures.acts) in
    let ranks : c.join_all.new.plan.ranks ≡ q * q = whole.ranks_are ∙ c.new-plan.ensures.ranks ∙ n in
    let all = grew_all (cuts ++ (sent ++ joins)) c.new-plan.result c.join_all.new.plan c.new-plan.ensures.acts whole in
    let acts : c.shut_all.new.plan.acts ≡ panels_acts q shape = c.in_ok-shut_all.ensures.acts ∙ (λ z. all z ++ shut_acts (ranks z)) in
    c.in_ok-plan.ensures.acts ∙ acts

pub returns-clause-panels : goal.returns-clause-panels
returns-clause-panels c =
    let q = c.args.grid.now.side in
    let shape = c.args.shape in
    subst (λ (xs : List Act). IsPanelsPlan xs q shape (1 + c.side.result)) (sym (returns-clause-acts c))
    (subst (λ k. IsPanelsPlan (panels_acts q shape) q shape (1 + k)) (sym c.side.ensures.value) (is_panels_plan q (side_above _ _ c.ranks.ensures.value c.ranks.ensures.some) shape))
