use Rattle.std.proofs.Common.{◌≡◌, ◌+◌, ◌*◌, ◌++◌, List, sym, subst, ◌∙◌}
use Rattle.cb_plan.specs.declared.acts.Act.{Act}
use Rattle.cb_plan_parts.specs.Collectives.{shut_acts}
use Rattle.cb_plan_parts.specs.PlanParts.{tagged}
use Rattle.cb_plan_parts.proofs.LoopGrowth.{grew_all, grew_both}
use Rattle.cb_plan_operations.specs.VectorPlans.{each_works}
use Rattle.cb_plan_operations.proofs.Sides.{side_above}
use Rattle.cb_plan_transfers.specs.Rounds.{given_away, row_exchanges, column_exchanges}
use Rattle.cb_plan_transfers.specs.Pieces.{IsPiecesPlan, received_sums, sum_cuts, pieces_acts}
use Rattle.cb_plan_transfers.proofs.PiecesMeaning.{is_pieces_plan}
use Rattle.cb_plan_transfers.proofs.pieces.pieces_plan.Goals as goal

pub checked-requires-clause-ranks : goal.checked-requires-clause-ranks
checked-requires-clause-ranks c =
    c.in_ok-shut_all.ensures.ranks
    ∙ c.in_ok-add_parts-2.ensures.acts.ranks_are
    ∙ c.in_ok-exchange_in_columns.ensures.acts.ranks_are
    ∙ c.in_ok-cut_sums.ensures.acts.ranks_are
    ∙ c.in_ok-add_parts.ensures.acts.ranks_are
    ∙ c.in_ok-exchange_in_rows.ensures.acts.ranks_are
    ∙ c.in_ok-cut_pieces.ensures.acts.ranks_are
    ∙ c.new-plan.ensures.ranks
    ∙ c.ranks.ensures.value

pub returns-clause-acts : goal.returns-clause-acts
returns-clause-acts c =
    let q = c.args.grid.now.side in
    let shape = c.args.shape in
    let last = c.add_parts-2.new.plan in
    let first = each_works q (λ _. given_away q shape) in
    let rows = row_exchanges q (tagged 0) in
    let adds = received_sums q in
    let second = each_works q (sum_cuts q shape) in
    let columns = column_exchanges q (tagged 0) in
    let whole = grew_both first (rows ++ (adds ++ (second ++ (columns ++ adds)))) c.new-plan.result c.cut_pieces.new.plan last c.in_ok-cut_pieces.ensures.acts
    (grew_both rows (adds ++ (second ++ (columns ++ adds))) c.cut_pieces.new.plan c.exchange_in_rows.new.plan last c.in_ok-exchange_in_rows.ensures.acts
    (grew_both adds (second ++ (columns ++ adds)) c.exchange_in_rows.new.plan c.add_parts.new.plan last c.in_ok-add_parts.ensures.acts
    (grew_both second (columns ++ adds) c.add_parts.new.plan c.cut_sums.new.plan last c.in_ok-cut_sums.ensures.acts
    (grew_both columns adds c.cut_sums.new.plan c.exchange_in_columns.new.plan last c.in_ok-exchange_in_columns.ensures.acts c.in_ok-add_parts-2.ensures.acts)))) in
    let ranks : last.ranks ≡ q * q = whole.ranks_are ∙ c.new-plan.ensures.ranks ∙ c.ranks.ensures.value in
    let all = grew_all (first ++ (rows ++ (adds ++ (second ++ (columns ++ adds))))) c.new-plan.result last c.new-plan.ensures.acts whole in
    let acts : c.shut_all.new.plan.acts ≡ pieces_acts q shape = c.in_ok-shut_all.ensures.acts ∙ (λ z. all z ++ shut_acts (ranks z)) in
    c.in_ok-plan.ensures.acts ∙ acts

pub returns-clause-parts : goal.returns-clause-parts
returns-clause-parts c =
    let q = c.args.grid.now.side in
    let shape = c.args.shape in
    subst (λ (xs : List Act). IsPiecesPlan xs q shape (1 + c.side.result)) (sym (returns-clause-acts c))
    (subst (λ k. IsPiecesPlan (pieces_acts q shape) q shape (1 + k)) (sym c.side.ensures.value) (is_pieces_plan q (side_above _ _ c.ranks.ensures.value c.ranks.ensures.some) shape))
