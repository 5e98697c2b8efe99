use Rattle.std.proofs.Common.{◌≡◌, ◌≢◌, length, get_or, sym, ap, ◌∙◌, arith}
use Rattle.std.proofs.lemmas.List.Elements.{All-from_get_or}
use Rattle.cb_matrix.specs.Sparse.{at}
use Rattle.cb_dcsc.specs.Columns.{row_value}
use Rattle.cb_product.proofs.AbsentColumns.{nothing_there}
use Rattle.cb_masked.proofs.AddedSums.{adds_as, adds_nothing, term_is, term_absent}
use Rattle.cb_masked.proofs.sums.add_term.Goals as goal

pub returns-then-column_rows-rows-clause-sums : goal.returns-then-column_rows-rows-clause-sums
returns-then-column_rows-rows-clause-sums g c =
    let s = g.S.Semiring.arithmetic in
    let laws = g.met.S.Semiring.is_semiring in
    let a = c.args.left.now in
    let column = c.nth_column.ensures in
    let numbers = c.column_numbers.ensures.numbers in
    let here = ap (λ cs. get_or cs c.place_of-n.result 0) (sym numbers) ∙ c.place_of-n.ensures.here (omega (arith, c.if-n-columns.true, c.columns.ensures, ap length numbers)) in
    adds_as s laws c.args.rows.now (λ i. s.mul (row_value s.zero c.nth_column.result.0.now c.nth_column.result.1.now i) c.args.factor) (λ i. s.mul (at s a i c.args.column) c.args.factor) _ _
    (λ i. term_is s laws a _ _ c.args.column _ c.args.factor i column.rows column.values here) c.add_listed.ensures.sums

pub returns-else-column_rows-rows-clause-sums : goal.returns-else-column_rows-rows-clause-sums
returns-else-column_rows-rows-clause-sums g c =
    let s = g.S.Semiring.arithmetic in
    let laws = g.met.S.Semiring.is_semiring in
    let a = c.args.left.now in
    let column = c.nth_column.ensures in
    let numbers = c.column_numbers.ensures.numbers in
    let here = ap (λ cs. get_or cs c.place_of-n.result 0) (sym numbers) ∙ c.place_of-n.ensures.here (omega (arith, c.if-n-columns.true, c.columns.ensures, ap length numbers)) in
    adds_as s laws c.args.rows.now (λ i. s.mul (row_value s.zero c.nth_column.result.0.now c.nth_column.result.1.now i) c.args.factor) (λ i. s.mul (at s a i c.args.column) c.args.factor) _ _
    (λ i. term_is s laws a _ _ c.args.column _ c.args.factor i column.rows column.values here) c.add_found.ensures.sums

pub returns-else-n-columns-clause-sums : goal.returns-else-n-columns-clause-sums
returns-else-n-columns-clause-sums g c =
    let s = g.S.Semiring.arithmetic in
    let laws = g.met.S.Semiring.is_semiring in
    let a = c.args.left.now in
    let numbers = c.column_numbers.ensures.numbers in
    let columns = c.column_numbers.result.now in
    let j = c.args.column in
    let past : c.place_of-n.result ≡ length columns = omega (arith, c.if-n-columns.false, c.columns.ensures, ap length numbers, c.place_of-n.ensures.within) in
    let absent = nothing_there j a.entries columns c.column_numbers.ensures.all (All-from_get_or (λ k. k ≢ j) columns 0 (c.place_of-n.ensures.none past)) in
    adds_nothing s laws c.args.rows.now (λ i. s.mul (at s a i j) c.args.factor) c.args.sums.now (λ n l. term_absent s laws a j c.args.factor (get_or c.args.rows.now n 0) c.requires.factor absent) c.requires.sums
