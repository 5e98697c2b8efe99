use Rattle.std.proofs.Common.{◌+◌, ◌*◌, length, ap, ◌∙◌, arith}
use Rattle.std.proofs.lemmas.List.FromFn.{length-map-range_with_len}
use Rattle.cb_plan_operations.proofs.Loops.{next_grew}
use Rattle.cb_plan_transfers.specs.Rounds.{rounds, row_exchange}
use Rattle.cb_plan_transfers.proofs.rounds.exchange_in_rows.Goals as goal

pub exchange_in_rounds-requires : goal.exchange_in_rounds-requires
exchange_in_rounds-requires c =
    let q = c.args.grid.now.side in
    let members = ap length (c.as_slice.ensures ∙ c.row_group-group.ensures) ∙ length-map-range_with_len (λ j. c.loop-i.i * q + j) 0 q in
    let side = c.side-side.ensures.value in
    let limit = c.side-side.ensures.limit in
    record { read = omega arith; set = omega arith }

pub loop-i-preserved : goal.loop-i-preserved
loop-i-preserved c =
    let q = c.args.grid.now.side in
    let members = c.as_slice.ensures ∙ c.row_group-group.ensures in
    let side = c.side-side.ensures.value in
    next_grew (row_exchange q c.args.tag) c.loop-i.i c.args.plan.now c.loop-i.plan _ (λ z. rounds (members z) c.args.tag 1 (1 + side z)) _ c.loop-i.invariant c.in_ok-exchange_in_rounds.ensures.acts
