use Rattle.std.proofs.Common.{rules, ◌<◌, length, map, ⊎_elim, arith}
use Rattle.cb_kept.specs.declared.triples.Triple.{Triple}
use Rattle.cb_kept.specs.Misfits.{IsFrom, IsTripleOutside}
use Rattle.cb_kept.proofs.FirstMisfits.{one_more, row_at, column_at}
use Rattle.cb_kept.proofs.misfits.first_outside_triple.Goals as goal

pub loop-n-preserved : goal.loop-n-preserved
loop-n-preserved c =
    let ts = c.args.triples.now in
    let n = c.loop-n.n in
    let l : n < length ts = search rules in
    let row = row_at ts n (record { row = 0; column = 0; value = 0 }) l in
    let column = column_at ts n (record { row = 0; column = 0; value = 0 }) l in
    let a = c.if-triples-n.false in
    let b = c.if-triples-n-2.false in
    let rows = c.rows.ensures.value in
    let cols = c.cols.ensures.value in
    one_more (IsTripleOutside c.args.shape ts) n c.loop-n.invariant (λ q.
    ⊎_elim
    (λ (x : IsFrom c.args.shape.rows (map (λ (t : Triple). t.row) ts) n). omega arith)
    (λ (x : IsFrom c.args.shape.cols (map (λ (t : Triple). t.column) ts) n). omega arith)
    q)
