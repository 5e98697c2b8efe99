use Rattle.std.proofs.Common.{◌≡◌, ℕ, ◌+◌, ◌<◌, ◌≤◌, length, get_or, subst, sym, ap, ◌∙◌, arith}
use Rattle.std.specs.Prelude.{All, slice_range}
use Rattle.std.proofs.lemmas.List.Elements.{All-get_or}
use Rattle.cb_semirings.specs.Arithmetic.{IsValue}
use Rattle.cb_dcsc.specs.Columns.{in_column, rows_of, values_of, columns_with_entries}
use Rattle.cb_dcsc.proofs.Lookup.{rows_inside}
use Rattle.cb_matrix.specs.Sparse.{at}
use Rattle.cb_matrix.specs.Values.{product}
use Rattle.cb_product.specs.InColumns.{only_columns}
use Rattle.cb_dense.proofs.ListedColumns.{rows_ascend, values_are, same_length, value_there, value_between, column_added, column_passed, all_columns_added, some_at, some_ascend, some_inside, some_product, listed_sum}
use Rattle.cb_dense.proofs.add_product_of_columns.Goals as goal
use Rattle.cb_dense.proofs.add_product_of_columns.Goals.{then-next-places+then-places-next, else-next-places, else-next-places-via-then-next-places+else-places-next, else-next-places-via-else-next-places}

pub advance-next-requires-clause-ascending : goal.advance-next-requires-clause-ascending
advance-next-requires-clause-ascending g c =
    rows_ascend g.S.Semiring.arithmetic c.args.vector.now c.shape-2.ensures.matrix c.requires.column _ c.row_numbers-places.ensures

pub add_column-requires-clause-scale : goal.add_column-requires-clause-scale
add_column-requires-clause-scale g c =
    let s = g.S.Semiring.arithmetic in
    let factors = c.values-factors.result.now in
    let long : length factors ≡ length c.row_numbers-places.result.now = same_length s c.args.vector.now c.shape-2.ensures.matrix c.requires.column _ factors c.row_numbers-places.ensures c.values-factors.ensures in
    All-get_or (IsValue s) factors c.advance-next.result 0 (omega (arith, long, c.if-next-places.true)) (values_are s c.args.vector.now c.shape-2.ensures.matrix c.requires.column factors c.values-factors.ensures)

pub add_column-requires-clause-inside : goal.add_column-requires-clause-inside
add_column-requires-clause-inside g c =
    subst (λ n. All (λ i. i < n) c.nth_column.result.0.now) (sym (c.loop-n.invariant.long ∙ c.requires.length))
    (rows_inside g.S.Semiring.arithmetic c.args.matrix.now _ _ c.shape.ensures.matrix c.nth_column.ensures.rows)

pub loop-n-preserved : goal.loop-n-preserved
loop-n-preserved g c =
    let s = g.S.Semiring.arithmetic in
    let laws = g.met.S.Semiring.is_semiring in
    let inv = c.loop-n.invariant in
    let a = c.args.matrix.now in
    let x = c.args.vector.now in
    let is = c.shape.ensures.matrix in
    let is_x = c.shape-2.ensures.matrix in
    let one = c.requires.column in
    let n = c.loop-n.n in
    let l = c.loop-n-test.true in
    let all = c.column_numbers-all.result.now in
    let numbers = c.column_numbers-all.ensures in
    let h : c.args.high ≤ length all = subst (λ cs. c.args.high ≤ length cs) (sym numbers.numbers) c.requires.within in
    let columns = slice_range all c.args.low c.args.high in
    let up = some_ascend all c.args.low c.args.high h numbers.ascending in
    let places = c.row_numbers-places.result.now in
    let factors = c.values-factors.result.now in
    let column : ℕ = get_or columns n 0 in
    let next = c.advance-next.ensures in
    let before : (k m : ℕ) → k < c.advance-next.result → n + 1 ≤ m → m < length columns → get_or places k 0 < get_or columns m 0 = λ k m f b w.
    let earlier = next.before k f in
    let later : get_or columns n 0 < get_or columns m 0 = up n m 0 (omega arith) w in
    omega arith in
    elim c.if-next-places.branch [
      | then-next-places+then-places-next w ↦
          let lists = w.nth_column.ensures in
          let here : get_or (columns_with_entries a.entries) (c.args.low + n) 0 ≡ get_or columns n 0 = ap (λ cs. get_or cs (c.args.low + n) 0) (sym numbers.numbers) ∙ sym (some_at all c.args.low c.args.high h n 0 l) in
          let factor = value_there s x is_x one places factors c.row_numbers-places.ensures c.values-factors.ensures c.advance-next.result column w.if-next-places.true w.if-places-next.true in
          rw w.sums-is (record {
            long = w.add_column.ensures.length ∙ inv.long;
            values = w.add_column.ensures.values;
            before = before;
            sums = λ i li. column_added s laws a x is is_x columns n l _ c.loop-n.sums _ _ _ _ (lists.rows ∙ ap (λ k. rows_of (in_column k a.entries)) here) (lists.values ∙ ap (λ k. values_of (in_column k a.entries)) here) factor inv.values w.add_column.ensures.sums inv.sums i (subst (λ m. i < m) w.add_column.ensures.length li);
          })
      | else-next-places w ↦
          let after : c.advance-next.result < length places → column < get_or places c.advance-next.result 0 = elim w.else-next-places.branch [
            | else-next-places-via-then-next-places+else-places-next v ↦ λ m. let reached = next.reached m in let other = v.if-places-next.false in omega arith
            | else-next-places-via-else-next-places v ↦ λ m. let past = v.if-next-places.false in absurd (omega arith)
          ] in
          let none = value_between s x is_x one places factors c.row_numbers-places.ensures c.values-factors.ensures c.advance-next.result column next.before after in
          rw w.sums-is (record {
            long = inv.long;
            values = inv.values;
            before = before;
            sums = column_passed s laws a x is is_x columns n l _ c.loop-n.sums none inv.sums;
          })
    ]

pub returns-clause-sums : goal.returns-clause-sums
returns-clause-sums g c =
    let s = g.S.Semiring.arithmetic in
    let laws = g.met.S.Semiring.is_semiring in
    let r = c.requires in
    let inv = c.loop-n.invariant in
    let a = c.args.matrix.now in
    let x = c.args.vector.now in
    let is = c.shape.ensures.matrix in
    let is_x = c.shape-2.ensures.matrix in
    let all = c.column_numbers-all.result.now in
    let numbers = c.column_numbers-all.ensures in
    let h : c.args.high ≤ length all = subst (λ cs. c.args.high ≤ length cs) (sym numbers.numbers) c.requires.within in
    let columns = slice_range all c.args.low c.args.high in
    let up = some_ascend all c.args.low c.args.high h numbers.ascending in
    λ i l.
    let sums : get_or c.loop-n.sums i s.zero ≡ s.add (get_or c.args.sums.now i s.zero) (listed_sum s a x i columns) =
    all_columns_added s laws a x is is_x columns c.loop-n.n c.loop-n.sums _ c.loop-n-test.false inv.values inv.sums i (rw (inv.long, r.length) l) in
    sums ∙ ap (s.add (get_or c.args.sums.now i s.zero)) (some_product s laws a x is is_x columns up (some_inside all c.args.low c.args.high h a.shape.cols numbers.inside) r.column i l)
    ∙ ap (λ cs. s.add (get_or c.args.sums.now i s.zero) (at s (product s (only_columns (slice_range cs c.args.low c.args.high) a) x) i 0)) numbers.numbers
