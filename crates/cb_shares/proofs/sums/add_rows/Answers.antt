use Rattle.std.proofs.Common.{◌≡◌, ◌<◌, ◌≤◌, length, get_or, ap, ◌∙◌, arith}
use Rattle.std.proofs.lemmas.List.{length-map, get_or-map}
use Rattle.std.proofs.lemmas.List.Elements.{All-get_or}
use Rattle.cb_semirings.specs.Arithmetic.{IsValue}
use Rattle.cb_matrix.specs.declared.Entry.{Entry}
use Rattle.cb_dcsc.proofs.Lookup.{all_rows_inside, all_values}
use Rattle.cb_shares.proofs.SumShares.{list_more, no_entry, no_rows}
use Rattle.cb_shares.proofs.sums.add_rows.Goals as goal

pub loop-n-init : goal.loop-n-init
loop-n-init g c = no_rows g.S.Semiring.arithmetic g.met.S.Semiring.is_semiring c.args.block.now c.args.from c.args.sums.now c.requires.zeros c.requires.length

pub bounds-sums-row : goal.bounds-sums-row
bounds-sums-row g c =
    let a = c.args.block.now in
    let rows = c.row_numbers-rows.result.now in
    let count : length rows ≡ length a.entries = ap length c.row_numbers-rows.ensures ∙ length-map a.entries (λ (e : Entry). e.row) in
    let below = c.loop-n-test.true in
    let within = c.requires.within in
    let inside = All-get_or (λ i. i < a.shape.rows) rows c.loop-n.n 0 (omega arith) (all_rows_inside g.S.Semiring.arithmetic a rows c.shape-shape.ensures.matrix c.row_numbers-rows.ensures) in
    let long = c.loop-n.invariant.as_long in
    omega arith

pub add-requires-clause-right_is_value : goal.add-requires-clause-right_is_value
add-requires-clause-right_is_value g c =
    let s = g.S.Semiring.arithmetic in
    let a = c.args.block.now in
    let values = c.values-values.result.now in
    let count : length values ≡ length a.entries = ap length c.values-values.ensures ∙ length-map a.entries (λ (e : Entry). e.value) in
    let below = c.loop-n-test.true in
    let within = c.requires.within in
    All-get_or (IsValue s) values c.loop-n.n 0 (omega arith) (all_values s a values c.shape-shape.ensures.matrix c.values-values.ensures)

pub bounds-sums-row-in-loop-n : goal.bounds-sums-row-in-loop-n
bounds-sums-row-in-loop-n g c =
    let a = c.args.block.now in
    let rows = c.row_numbers-rows.result.now in
    let count : length rows ≡ length a.entries = ap length c.row_numbers-rows.ensures ∙ length-map a.entries (λ (e : Entry). e.row) in
    let below = c.loop-n-test.true in
    let within = c.requires.within in
    let inside = All-get_or (λ i. i < a.shape.rows) rows c.loop-n.n 0 (omega arith) (all_rows_inside g.S.Semiring.arithmetic a rows c.shape-shape.ensures.matrix c.row_numbers-rows.ensures) in
    let long = c.loop-n.invariant.as_long in
    omega arith

pub loop-n-preserved : goal.loop-n-preserved
loop-n-preserved g c =
    let s = g.S.Semiring.arithmetic in
    let a = c.args.block.now in
    let es = a.entries in
    let n = c.loop-n.n in
    let below = c.loop-n-test.true in
    let within = c.requires.within in
    let l : n < length es = omega arith in
    let is_row : get_or c.row_numbers-rows.result.now n 0 ≡ (get_or es n no_entry).row = ap (λ xs. get_or xs n 0) c.row_numbers-rows.ensures ∙ get_or-map (λ (e : Entry). e.row) es n no_entry 0 l in
    let is_value : get_or c.values-values.result.now n 0 ≡ (get_or es n no_entry).value = ap (λ xs. get_or xs n 0) c.values-values.ensures ∙ get_or-map (λ (e : Entry). e.value) es n no_entry 0 l in
    let from : c.args.from ≤ n = c.loop-n.auto.n in
    rw c.add.ensures (list_more s g.met.S.Semiring.is_semiring a c.shape-shape.ensures.matrix c.args.from n from l c.loop-n.sums _ _ is_row is_value c.loop-n.invariant)
