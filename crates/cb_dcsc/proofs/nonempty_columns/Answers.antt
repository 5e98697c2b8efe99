use Rattle.std.proofs.Common.{◌≡◌, ◌+◌, [], ◌∷◌, ◌++◌, get_or, ap, ◌∙◌, arith}
use Rattle.cb_dcsc.proofs.Csc.{none_nonempty, skipped, named}
use Rattle.cb_dcsc.proofs.nonempty_columns.Goals as goal
use Rattle.cb_dcsc.proofs.nonempty_columns.Goals.{then-all-column+in_ok-push+in_ok-push-2, else-all-column}

pub loop-column-init : goal.loop-column-init
loop-column-init c =
    let starts = c.push_reserved.ensures.items ∙ ap (λ xs. xs ++ 0 ∷ []) c.in_ok-starts.ensures.items in
    rw (c.in_ok-columns.ensures.items, starts) (none_nonempty c.args.all.now c.requires.first)

pub loop-column-preserved : goal.loop-column-preserved
loop-column-preserved c =
    let are = c.loop-column.invariant in
    let rising = c.requires.rising c.loop-column.column c.loop-column-test.true in
    elim c.if-all-column.branch [
      | then-all-column+in_ok-push+in_ok-push-2 w ↦ rw (w.columns-is, w.starts-is) (named c.loop-column.column c.args.all.now _ _ _ _ are w.if-all-column.true w.in_ok-push.ensures.items w.in_ok-push-2.ensures.items)
      | else-all-column w ↦ let e : get_or c.args.all.now c.loop-column.column 0 ≡ get_or c.args.all.now (c.loop-column.column + 1) 0 = let f = w.if-all-column.false in omega arith in rw (w.columns-is, w.starts-is) (skipped c.loop-column.column c.args.all.now _ _ are e)
    ]
