use Rattle.std.proofs.Common.{◌≡◌, ◌+◌, ◌∙◌, ◌<◌, ℕ, ap, get_or, set, take, arith}
use Rattle.std.specs.Prelude.{◌==◌, count_by}
use Rattle.std.proofs.lemmas.List.{get_or_default, length-set, length-take-le, take_all}
use Rattle.std.proofs.lemmas.List.Elements.{All-from_get_or}
use Rattle.std.proofs.lemmas.List.Sums.{count_by-le-length}
use Rattle.cb_semirings.specs.Arithmetic.{IsValue}
use Rattle.cb_semirings.specs.Tables.{plus_times}
use Rattle.cb_graphs.proofs.RowCounts.{counted_more}
use Rattle.cb_graphs.proofs.degrees.row_counts.Goals as goal

pub overflow_add-count : goal.overflow_add-count
overflow_add-count c =
    let row : ℕ = get_or c.args.rows.now c.loop-row.row-index 0 in
    let low : row < c.args.bound = c.requires c.loop-row.row-index 0 c.loop-row-test.true in
    let long = c.loop-row.invariant.long in
    let at : c.index-count.result.now ≡ get_or c.loop-row.counts.items row 0 = c.index-count.ensures ∙ get_or_default c.loop-row.counts.items row _ 0 (omega arith) in
    let is = c.loop-row.invariant.so_far row low in
    let few = count_by-le-length (λ r. r == row) (take c.loop-row.row-index c.args.rows.now) in
    let taken = length-take-le c.loop-row.row-index c.args.rows.now (let t = c.loop-row-test.true in omega arith) in
    omega arith

pub loop-row-preserved : goal.loop-row-preserved
loop-row-preserved c =
    let rows = c.args.rows.now in
    let counts = c.loop-row.counts.items in
    let m = c.loop-row.row-index in
    let low : get_or rows m 0 < c.args.bound = c.requires m 0 c.loop-row-test.true in
    let long = c.loop-row.invariant.long in
    let at : c.index-count.result.now ≡ get_or counts (get_or rows m 0) 0 = c.index-count.ensures ∙ get_or_default counts (get_or rows m 0) _ 0 (omega arith) in
    record {
      long = length-set counts _ _ ∙ long;
      so_far = λ n l. ap (λ x. get_or (set counts (get_or rows m 0) (x + 1)) n 0) at ∙ counted_more c.args.bound rows counts m long c.loop-row.invariant.so_far c.loop-row-test.true low n l;
    }

pub returns-clause-values : goal.returns-clause-values
returns-clause-values c =
    let rows = c.args.rows.now in
    let counts = c.loop-row.counts.items in
    let long = c.loop-row.invariant.long in
    All-from_get_or (IsValue plus_times) counts 0 (λ i l.
    let is = c.loop-row.invariant.so_far i (omega (arith, long, l)) in
    let few = count_by-le-length (λ r. r == i) (take c.loop-row.row-index rows) in
    let taken : take c.loop-row.row-index rows ≡ rows = take_all c.loop-row.row-index rows c.loop-row-test.false in
    let short = rw taken at few in
    let is' = rw taken at is in
    omega arith)

pub returns-clause-counts : goal.returns-clause-counts
returns-clause-counts c = λ i l. c.loop-row.invariant.so_far i l ∙ ap (λ xs. count_by (λ r. r == i) xs) (take_all c.loop-row.row-index c.args.rows.now c.loop-row-test.false)
