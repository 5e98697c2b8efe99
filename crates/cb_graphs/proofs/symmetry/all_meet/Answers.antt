use Rattle.std.proofs.Common.{◌≡◌, ◌≢◌, ◌<◌, ◌≤◌, ◌∙◌, ℕ, true, List, ⊎_elim, get_or, subst, sym, ap, arith}
use Rattle.std.specs.Prelude.{All}
use Rattle.std.proofs.lemmas.Bool.{cases_lt, not-false}
use Rattle.cb_semirings.specs.Tables.{or_and}
use Rattle.cb_matrix.specs.Sparse.{at}
use Rattle.cb_dcsc.specs.Columns.{in_column, rows_of}
use Rattle.cb_graphs.proofs.Joined.{meet_all}
use Rattle.cb_graphs.proofs.symmetry.all_meet.Goals as goal

pub loop-n-preserved : goal.loop-n-preserved
loop-n-preserved c =
    let s = c.args.graph.now in
    let cols = c.column_numbers-columns in
    let vs = cols.result.now in
    let n = c.loop-n.n in
    let rows : c.nth_column.result.0.now ≡ rows_of (in_column (get_or vs n 0) s.entries) = c.nth_column.ensures.rows ∙ ap (λ (xs : List ℕ). rows_of (in_column (get_or xs n 0) s.entries)) (sym cols.ensures.numbers) in
    let passed : c.meets_all.result ≡ true = search not-false in
    record {
      as_many = c.meets_all.ensures.as_many ∙ c.loop-n.invariant.as_many;
      met = λ k l. ⊎_elim
          (λ (d : k < n). c.loop-n.invariant.met k d)
          (λ (d : n ≤ k). let e : k ≡ n = omega (arith, l, d) in
          subst (λ (i : ℕ). All (λ u. at or_and s (get_or vs i 0) u ≢ 0) (rows_of (in_column (get_or vs i 0) s.entries))) (sym e)
          (subst (All (λ u. at or_and s (get_or vs n 0) u ≢ 0)) rows (c.meets_all.ensures.entries passed)))
          (cases_lt k n);
    }

pub returns : goal.returns
returns c _ =
    let cols = c.column_numbers-columns in
    meet_all c.args.graph.now c.shape-shape.ensures.matrix cols.result.now cols.ensures.all (λ k l. c.loop-n.invariant.met k (omega arith))
