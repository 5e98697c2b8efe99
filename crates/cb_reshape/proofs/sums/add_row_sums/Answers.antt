use Rattle.std.proofs.Common.{◌≡◌, ◌<◌, ◌≤◌, length, get_or, sym, ap, subst, ◌∙◌, arith}
use Rattle.std.proofs.lemmas.List.{length-set, length-map, get_or-map}
use Rattle.std.proofs.lemmas.List.Elements.{All-get_or, All-set}
use Rattle.cb_semirings.specs.Arithmetic.{IsValue}
use Rattle.cb_matrix.specs.declared.Entry.{Entry}
use Rattle.cb_dcsc.proofs.Lookup.{all_rows_inside, all_values}
use Rattle.cb_reshape.proofs.RowTotals.{no_entry, row_sum_is, entry_added, all_added}
use Rattle.cb_reshape.proofs.sums.add_row_sums.Goals as goal

pub bounds-sums-row : goal.bounds-sums-row
bounds-sums-row g c =
    let inside = all_rows_inside g.S.Semiring.arithmetic c.args.block.now c.row_numbers-rows.result.now c.shape-shape.ensures.matrix c.row_numbers-rows.ensures in
    let below = All-get_or (λ i. i < c.args.block.now.shape.rows) c.row_numbers-rows.result.now c.loop-n.n 0 c.loop-n-test.true inside in
    let long = c.loop-n.invariant.long in
    let all = c.requires.length in
    omega arith

pub add-requires-clause-right_is_value : goal.add-requires-clause-right_is_value
add-requires-clause-right_is_value g c =
    let s = g.S.Semiring.arithmetic in
    let values = all_values s c.args.block.now c.values-values.result.now c.shape-shape.ensures.matrix c.values-values.ensures in
    let same : length c.values-values.result.now ≡ length c.row_numbers-rows.result.now =
    ap length c.values-values.ensures ∙ length-map c.args.block.now.entries (λ (e : Entry). e.value) ∙ sym (length-map c.args.block.now.entries (λ (e : Entry). e.row)) ∙ ap length (sym c.row_numbers-rows.ensures) in
    let l = c.loop-n-test.true in
    All-get_or (IsValue s) c.values-values.result.now c.loop-n.n 0 (omega arith) values

pub bounds-sums-row-in-loop-n : goal.bounds-sums-row-in-loop-n
bounds-sums-row-in-loop-n g c =
    let inside = all_rows_inside g.S.Semiring.arithmetic c.args.block.now c.row_numbers-rows.result.now c.shape-shape.ensures.matrix c.row_numbers-rows.ensures in
    let below = All-get_or (λ i. i < c.args.block.now.shape.rows) c.row_numbers-rows.result.now c.loop-n.n 0 c.loop-n-test.true inside in
    let long = c.loop-n.invariant.long in
    let all = c.requires.length in
    omega arith

pub loop-n-preserved : goal.loop-n-preserved
loop-n-preserved g c =
    let s = g.S.Semiring.arithmetic in
    let laws = g.met.S.Semiring.is_semiring in
    let inv = c.loop-n.invariant in
    let a = c.args.block.now in
    let es = a.entries in
    let rows = c.row_numbers-rows.result.now in
    let values = c.values-values.result.now in
    let sums = c.loop-n.sums in
    let n = c.loop-n.n in
    let count : length rows ≡ length es = ap length c.row_numbers-rows.ensures ∙ length-map es (λ (e : Entry). e.row) in
    let also : length values ≡ length es = ap length c.values-values.ensures ∙ length-map es (λ (e : Entry). e.value) in
    let test = c.loop-n-test.true in
    let l : n < length es = omega arith in
    let inside = All-get_or (λ i. i < a.shape.rows) rows n 0 test (all_rows_inside s a rows c.shape-shape.ensures.matrix c.row_numbers-rows.ensures) in
    let long = inv.long in
    let all = c.requires.length in
    let lr : get_or rows n 0 < length sums = omega arith in
    let value = All-get_or (IsValue s) values n 0 (omega arith) (all_values s a values c.shape-shape.ensures.matrix c.values-values.ensures) in
    let is_row : get_or rows n 0 ≡ (get_or es n no_entry).row = ap (λ xs. get_or xs n 0) c.row_numbers-rows.ensures ∙ get_or-map (λ (e : Entry). e.row) es n no_entry 0 l in
    let is_value : get_or values n 0 ≡ (get_or es n no_entry).value = ap (λ xs. get_or xs n 0) c.values-values.ensures ∙ get_or-map (λ (e : Entry). e.value) es n no_entry 0 l in
    rw c.add.ensures (record {
      long = length-set sums _ _ ∙ inv.long;
      values = All-set (IsValue s) sums _ _ (laws.add_value _ _ (All-get_or (IsValue s) sums _ 0 lr inv.values) value) inv.values;
      sums = λ i li. entry_added s laws es c.shape-shape.ensures.matrix.values n _ sums _ _ l is_row is_value inv.values lr inv.sums i (subst (λ m. i < m) (length-set sums _ _) li);
    })

pub returns-clause-sums : goal.returns-clause-sums
returns-clause-sums g c =
    let s = g.S.Semiring.arithmetic in
    let laws = g.met.S.Semiring.is_semiring in
    let inv = c.loop-n.invariant in
    let a = c.args.block.now in
    let count : length c.row_numbers-rows.result.now ≡ length a.entries = ap length c.row_numbers-rows.ensures ∙ length-map a.entries (λ (e : Entry). e.row) in
    let past = c.loop-n-test.false in
    let l : length a.entries ≤ c.loop-n.n = omega arith in
    λ i li.
    let within : i < length c.loop-n.sums = subst (λ m. i < m) (sym (inv.long ∙ c.requires.length)) li in
    all_added s laws a.entries c.shape-shape.ensures.matrix.values c.loop-n.n _ c.loop-n.sums l inv.values inv.sums i within ∙ ap (s.add (get_or c.args.sums.now i s.zero)) (row_sum_is s laws a i c.shape-shape.ensures.matrix)
