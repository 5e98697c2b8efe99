use Rattle.std.proofs.Common.{◌≡◌, ◌<◌, map, filter, take, refl, sym, ap, subst, ◌∙◌, arith}
use Rattle.std.specs.Prelude.{All}
use Rattle.std.proofs.lemmas.List.{take_all}
use Rattle.cb_matrix.specs.Sparse.{Extent}
use Rattle.cb_matrix.proofs.Totals.{total_value}
use Rattle.cb_dcsc.specs.Columns.{in_column, values_of}
use Rattle.cb_dcsc.specs.Compressed.{entries_in_row}
use Rattle.cb_dcsc.proofs.Lookup.{column_values}
use Rattle.cb_reshape.proofs.PartValues.{both}
use Rattle.cb_reshape.proofs.SumsSoFar.{AreRow, are_row, all_sums_are, is_stored, stored_total, sums_at, sums_in_row}
use Rattle.cb_reshape.proofs.sums.column_sums.Given as given
use Rattle.cb_reshape.proofs.sums.column_sums.Goals.{After-loop-n}
use Rattle.cb_reshape.proofs.sums.column_sums.Goals as goal

-- the columns and their sums are a row
stored_row : (g : given.Over) (c : After-loop-n g) → AreRow g.S.Semiring.arithmetic c.args.block.now.shape.cols c.loop-n.columns.items c.loop-n.sums.items
stored_row g c =
    let s = g.S.Semiring.arithmetic in
    let a = c.args.block.now in
    let t = stored_total s a.entries in
    let cs = c.column_numbers-numbers.result.now in
    let numbers = c.column_numbers-numbers.ensures in
    let inv = c.loop-n.invariant in
    let past = c.loop-n-test.false in
    let columns = inv.columns ∙ ap (λ xs. filter (is_stored s t) (take c.loop-n.n xs)) (sym numbers.numbers) ∙ ap (filter (is_stored s t)) (take_all c.loop-n.n cs (omega arith)) in
    are_row s t a.shape.cols cs c.loop-n.columns.items c.loop-n.sums.items numbers.ascending numbers.inside
    (λ j. total_value s g.met.S.Semiring.is_semiring (values_of (in_column j a.entries)) (column_values s a j (values_of (in_column j a.entries)) c.shape.ensures.matrix refl)) columns inv.sums

pub from_row-requires-clause-ascending : goal.from_row-requires-clause-ascending
from_row-requires-clause-ascending g c = (stored_row g c).ascending

pub from_row-requires-clause-columns : goal.from_row-requires-clause-columns
from_row-requires-clause-columns g c =
    let same : c.args.block.now.shape.cols ≡ c.one_row-shape.result.cols = ap (λ (x : Extent). x.cols) (sym c.shape.ensures.shape) ∙ ap (λ (x : Extent). x.cols) (sym c.one_row-shape.ensures) in
    subst (λ n. All (λ j. j < n) c.loop-n.columns.items) same (stored_row g c).inside

pub from_row-requires-clause-values : goal.from_row-requires-clause-values
from_row-requires-clause-values g c = (stored_row g c).values

pub from_row-requires-clause-not_zero : goal.from_row-requires-clause-not_zero
from_row-requires-clause-not_zero g c = (stored_row g c).not_zero

pub returns : goal.returns
returns g c =
    let s = g.S.Semiring.arithmetic in
    let a = c.args.block.now in
    let t = stored_total s a.entries in
    let cs = c.column_numbers-numbers.result.now in
    let numbers = c.column_numbers-numbers.ensures in
    let n = c.loop-n.n in
    let inv = c.loop-n.invariant in
    let past = c.loop-n-test.false in
    let columns : c.loop-n.columns.items ≡ filter (is_stored s t) (take n cs) = inv.columns ∙ ap (λ xs. filter (is_stored s t) (take n xs)) (sym numbers.numbers) in
    let sums : c.loop-n.sums.items ≡ map t (filter (is_stored s t) (take n cs)) = inv.sums ∙ ap (map t) columns in
    let entries : entries_in_row 0 c.loop-n.columns.items c.loop-n.sums.items ≡ sums_at s t (take n cs) = (λ z. entries_in_row 0 (columns z) (sums z)) ∙ sums_in_row s t (take n cs) in
    let shape : c.one_row-shape.result ≡ record { rows = 1; cols = a.shape.cols } = c.one_row-shape.ensures ∙ ap (λ (x : Extent). let y : Extent = record { rows = 1; cols = x.cols } in y) c.shape.ensures.shape in
    both c.from_row.result _ _ _ c.from_row.ensures.entries c.from_row.ensures.matrix
    (λ m is matrix. all_sums_are s g.met.S.Semiring.is_semiring a m cs n c.shape.ensures.matrix matrix numbers.numbers numbers.ascending (omega arith) (is ∙ (λ z. record { shape = shape z; entries = entries z })))
