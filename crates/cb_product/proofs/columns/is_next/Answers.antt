use Rattle.std.proofs.Common.{◌≤◌, ◌∙◌, get_or, sym, arith}
use Rattle.std.proofs.lemmas.Bool.{le-ltb}
use Rattle.cb_product.proofs.Outside.{at_row, past_all}
use Rattle.cb_product.proofs.columns.is_next.Goals as goal
use Rattle.cb_product.proofs.columns.is_next.Goals.{then-loop-next-test+else-rows-next, else-loop-next-test}

pub returns-then-next-rows-clause-among : goal.returns-then-next-rows-clause-among
returns-then-next-rows-clause-among c =
    let rows = c.args.rows.now in
    let n = c.loop-next.next in
    let least : c.args.row ≤ get_or rows n 0 = elim c.loop-next-test.branch [
      | then-loop-next-test+else-rows-next w ↦ w.if-rows-next.false
      | else-loop-next-test w ↦ let past = w.loop-next-test.false in let l = c.if-next-rows.true in absurd (omega arith)
    ] in
    at_row rows c.requires.ascending n c.args.row c.loop-next.invariant c.if-next-rows.true least

pub returns-else-next-rows-clause-among : goal.returns-else-next-rows-clause-among
returns-else-next-rows-clause-among c =
    le-ltb _ _ c.if-next-rows.false ∙ sym (past_all c.args.rows.now c.requires.ascending c.loop-next.next c.args.row c.loop-next.invariant c.if-next-rows.false)
