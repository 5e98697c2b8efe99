use Rattle.std.proofs.Common.{◌≡◌, ◌+◌, ◌*◌, ◌<◌, ◌≤◌, ◌∙◌, ℕ, get_or, refl, sym, ap, subst, arith}
use Rattle.std.specs.Prelude.{All}
use Rattle.std.proofs.Math.Nat.{mul-le-mul_right}
use Rattle.std.proofs.lemmas.List.Elements.{All-weaker}
use Rattle.cb_matrix.specs.declared.TheConstants.{LIMIT}
use Rattle.cb_matrix.specs.Sparse.{Extent, at}
use Rattle.cb_dcsc.specs.Columns.{rows_of, values_of}
use Rattle.cb_dcsc.proofs.Lookup.{rows_inside}
use Rattle.cb_product.proofs.OwnColumn.{own_sparse}
use Rattle.cb_product.proofs.StoredColumn.{column_adds, column_inside}
use Rattle.cb_operations.specs.SelectionAnswers.{pair_value}
use Rattle.cb_elementwise.proofs.ReplacedColumns.{nth_are}
use Rattle.cb_selections.proofs.PairedColumns.{columns_none, columns_all, column_none, column_all, column_more, column_before, column_low, pair_past, paired_has}
use Rattle.cb_selections.proofs.kronecker_products.push_products.Goals as goal

pub loop-n-init : goal.loop-n-init
loop-n-init g c =
    let s = g.S.Semiring.arithmetic in
    let laws = g.met.S.Semiring.is_semiring in
    let a = c.args.left.now in
    let b = c.args.right.now in
    let cs = c.column_numbers-outer in
    let ds = c.column_numbers-inner in
    columns_none s laws a b c.requires.left c.requires.right cs.result.now ds.result.now cs.ensures.ascending ds.ensures.ascending cs.ensures.inside ds.ensures.inside cs.ensures.all ds.ensures.all c.args.out.now c.requires.out_matrix c.requires.empty

pub loop-m-init : goal.loop-m-init
loop-m-init g c =
    let s = g.S.Semiring.arithmetic in
    let laws = g.met.S.Semiring.is_semiring in
    let a = c.args.left.now in
    let b = c.args.right.now in
    let cs = c.column_numbers-outer in
    let ds = c.column_numbers-inner in
    column_none s laws a b c.requires.left c.requires.right cs.result.now ds.result.now cs.ensures.ascending ds.ensures.ascending cs.ensures.inside ds.ensures.inside cs.ensures.all ds.ensures.all c.loop-n.out c.loop-n.n c.loop-n-test.true c.loop-n.invariant

pub pair_column-requires-clause-left : goal.pair_column-requires-clause-left
pair_column-requires-clause-left g c =
    let s = g.S.Semiring.arithmetic in
    let a = c.args.left.now in
    let cs = c.column_numbers-outer in
    let n = c.loop-n.n in
    let p = get_or cs.result.now n 0 in
    let left_rows = c.nth_column.result.0.now in
    let left_values = c.nth_column.result.1.now in
    let left_rows_are = nth_are a.entries cs.result.now left_rows n rows_of cs.ensures.numbers c.nth_column.ensures.rows in
    let left_values_are = nth_are a.entries cs.result.now left_values n values_of cs.ensures.numbers c.nth_column.ensures.values in
    own_sparse s a c.requires.left p left_rows left_values left_rows_are left_values_are

pub pair_column-requires-clause-right : goal.pair_column-requires-clause-right
pair_column-requires-clause-right g c =
    let s = g.S.Semiring.arithmetic in
    let b = c.args.right.now in
    let ds = c.column_numbers-inner in
    let m = c.loop-m.m in
    let q = get_or ds.result.now m 0 in
    let rows = c.nth_column-in-loop-m.result.0.now in
    let values = c.nth_column-in-loop-m.result.1.now in
    let rows_are = nth_are b.entries ds.result.now rows m rows_of ds.ensures.numbers c.nth_column-in-loop-m.ensures.rows in
    let values_are = nth_are b.entries ds.result.now values m values_of ds.ensures.numbers c.nth_column-in-loop-m.ensures.values in
    own_sparse s b c.requires.right q rows values rows_are values_are

pub pair_column-requires-clause-low : goal.pair_column-requires-clause-low
pair_column-requires-clause-low g c =
    let s = g.S.Semiring.arithmetic in
    let b = c.args.right.now in
    let ds = c.column_numbers-inner in
    let m = c.loop-m.m in
    let q = get_or ds.result.now m 0 in
    let rows = c.nth_column-in-loop-m.result.0.now in
    let rows_are = nth_are b.entries ds.result.now rows m rows_of ds.ensures.numbers c.nth_column-in-loop-m.ensures.rows in
    let height_is : c.rows-height.result ≡ b.shape.rows = c.rows-height.ensures.value ∙ ap (λ (x : Extent). x.rows) c.shape.ensures.shape in
    subst (λ h. All (λ i. i < h) rows) (sym height_is) (rows_inside s b q rows c.requires.right rows_are)

pub pair_column-requires-clause-limit : goal.pair_column-requires-clause-limit
pair_column-requires-clause-limit g c =
    let s = g.S.Semiring.arithmetic in
    let a = c.args.left.now in
    let b = c.args.right.now in
    let cs = c.column_numbers-outer in
    let n = c.loop-n.n in
    let p = get_or cs.result.now n 0 in
    let left_rows = c.nth_column.result.0.now in
    let left_rows_are = nth_are a.entries cs.result.now left_rows n rows_of cs.ensures.numbers c.nth_column.ensures.rows in
    let height_is : c.rows-height.result ≡ b.shape.rows = c.rows-height.ensures.value ∙ ap (λ (x : Extent). x.rows) c.shape.ensures.shape in
    let most = c.requires.rows in
    subst (λ h. All (λ i. (i + 1) * h ≤ LIMIT) left_rows) (sym height_is)
    (All-weaker (λ i. i < a.shape.rows) (λ i. (i + 1) * b.shape.rows ≤ LIMIT) (λ i l. let up : i + 1 ≤ a.shape.rows = omega arith in let more = mul-le-mul_right b.shape.rows up in omega (arith, more, most)) left_rows (rows_inside s a p left_rows c.requires.left left_rows_are))

pub overflow_mul-column : goal.overflow_mul-column
overflow_mul-column g c =
    let s = g.S.Semiring.arithmetic in
    let laws = g.met.S.Semiring.is_semiring in
    let a = c.args.left.now in
    let b = c.args.right.now in
    let cs = c.column_numbers-outer in
    let ds = c.column_numbers-inner in
    let width_is : c.cols-width.result ≡ b.shape.cols = c.cols-width.ensures.value ∙ ap (λ (x : Extent). x.cols) c.shape-2.ensures.shape in
    let low = column_low s laws a b c.requires.left c.requires.right cs.result.now ds.result.now cs.ensures.ascending ds.ensures.ascending cs.ensures.inside ds.ensures.inside cs.ensures.all ds.ensures.all c.loop-n.n c.loop-m.m c.loop-n-test.true c.loop-m-test.true in
    let most = c.requires.cols in
    rw width_is (omega (arith, low, most))

pub overflow_add-column : goal.overflow_add-column
overflow_add-column g c =
    let s = g.S.Semiring.arithmetic in
    let laws = g.met.S.Semiring.is_semiring in
    let a = c.args.left.now in
    let b = c.args.right.now in
    let cs = c.column_numbers-outer in
    let ds = c.column_numbers-inner in
    let width_is : c.cols-width.result ≡ b.shape.cols = c.cols-width.ensures.value ∙ ap (λ (x : Extent). x.cols) c.shape-2.ensures.shape in
    let low = column_low s laws a b c.requires.left c.requires.right cs.result.now ds.result.now cs.ensures.ascending ds.ensures.ascending cs.ensures.inside ds.ensures.inside cs.ensures.all ds.ensures.all c.loop-n.n c.loop-m.m c.loop-n-test.true c.loop-m-test.true in
    let most = c.requires.cols in
    rw width_is (omega (arith, low, most))

pub push_column-requires-clause-rows : goal.push_column-requires-clause-rows
push_column-requires-clause-rows g c =
    let s = g.S.Semiring.arithmetic in
    let laws = g.met.S.Semiring.is_semiring in
    let a = c.args.left.now in
    let b = c.args.right.now in
    let cs = c.column_numbers-outer in
    let ds = c.column_numbers-inner in
    let n = c.loop-n.n in
    let m = c.loop-m.m in
    let p = get_or cs.result.now n 0 in
    let q = get_or ds.result.now m 0 in
    let left_rows = c.nth_column.result.0.now in
    let left_values = c.nth_column.result.1.now in
    let rows = c.nth_column-in-loop-m.result.0.now in
    let values = c.nth_column-in-loop-m.result.1.now in
    let left_rows_are = nth_are a.entries cs.result.now left_rows n rows_of cs.ensures.numbers c.nth_column.ensures.rows in
    let left_values_are = nth_are a.entries cs.result.now left_values n values_of cs.ensures.numbers c.nth_column.ensures.values in
    let rows_are = nth_are b.entries ds.result.now rows m rows_of ds.ensures.numbers c.nth_column-in-loop-m.ensures.rows in
    let values_are = nth_are b.entries ds.result.now values m values_of ds.ensures.numbers c.nth_column-in-loop-m.ensures.values in
    let height_is : c.rows-height.result ≡ b.shape.rows = c.rows-height.ensures.value ∙ ap (λ (x : Extent). x.rows) c.shape.ensures.shape in
    let ks = c.pair_column.new.kept_rows.items in
    let ws = c.pair_column.new.kept_values.items in
    let f : ℕ → ℕ = λ i. pair_value s b.shape.rows (λ k. at s a k p) (λ k. at s b k q) i in
    let has = paired_has s a b p q left_rows left_values rows values ks ws left_rows_are left_values_are rows_are values_are height_is c.in_ok-pair_column.ensures.values in
    let inside = column_inside s p f ks ws c.in_ok-pair_column.ensures.column has (a.shape.rows * b.shape.rows) (λ i l. pair_past s laws a b c.requires.left c.requires.right cs.result.now ds.result.now cs.ensures.ascending ds.ensures.ascending cs.ensures.inside ds.ensures.inside cs.ensures.all ds.ensures.all p q i l) in
    let shape = ap (λ (x : Extent). x.rows) c.loop-m.invariant.shape in
    subst (λ h. All (λ i. i < h) c.deref.result.now) (sym shape) (subst (All (λ i. i < a.shape.rows * b.shape.rows)) (sym c.deref.ensures.value) inside)

pub push_column-requires-clause-column : goal.push_column-requires-clause-column
push_column-requires-clause-column g c =
    let s = g.S.Semiring.arithmetic in
    let laws = g.met.S.Semiring.is_semiring in
    let a = c.args.left.now in
    let b = c.args.right.now in
    let cs = c.column_numbers-outer in
    let ds = c.column_numbers-inner in
    let n = c.loop-n.n in
    let m = c.loop-m.m in
    let p = get_or cs.result.now n 0 in
    let q = get_or ds.result.now m 0 in
    let width_is : c.cols-width.result ≡ b.shape.cols = c.cols-width.ensures.value ∙ ap (λ (x : Extent). x.cols) c.shape-2.ensures.shape in
    let low = column_low s laws a b c.requires.left c.requires.right cs.result.now ds.result.now cs.ensures.ascending ds.ensures.ascending cs.ensures.inside ds.ensures.inside cs.ensures.all ds.ensures.all n m c.loop-n-test.true c.loop-m-test.true in
    let shape = ap (λ (x : Extent). x.cols) c.loop-m.invariant.shape in
    subst (λ w. p * c.cols-width.result + q < w) (sym shape) (subst (λ w. p * w + q < a.shape.cols * b.shape.cols) (sym width_is) low)

pub push_column-requires-clause-lengths : goal.push_column-requires-clause-lengths
push_column-requires-clause-lengths g c = rw (c.deref.ensures.value, c.deref-in-loop-m.ensures.value) c.in_ok-pair_column.ensures.column.same_length

pub push_column-requires-clause-ascending : goal.push_column-requires-clause-ascending
push_column-requires-clause-ascending g c = rw c.deref.ensures.value c.in_ok-pair_column.ensures.column.ascending

pub push_column-requires-clause-before : goal.push_column-requires-clause-before
push_column-requires-clause-before g c =
    let s = g.S.Semiring.arithmetic in
    let laws = g.met.S.Semiring.is_semiring in
    let a = c.args.left.now in
    let b = c.args.right.now in
    let cs = c.column_numbers-outer in
    let ds = c.column_numbers-inner in
    let n = c.loop-n.n in
    let m = c.loop-m.m in
    let width_is : c.cols-width.result ≡ b.shape.cols = c.cols-width.ensures.value ∙ ap (λ (x : Extent). x.cols) c.shape-2.ensures.shape in
    let before = column_before s laws a b c.requires.left c.requires.right cs.result.now ds.result.now cs.ensures.ascending ds.ensures.ascending cs.ensures.inside ds.ensures.inside cs.ensures.all ds.ensures.all c.loop-m.out n m c.loop-m-test.true c.loop-m.invariant in
    subst (λ w. All (λ e. e.column < get_or cs.result.now n 0 * w + get_or ds.result.now m 0) c.loop-m.out.entries) (sym width_is) before

pub push_column-requires-clause-values : goal.push_column-requires-clause-values
push_column-requires-clause-values g c = rw c.deref-in-loop-m.ensures.value c.in_ok-pair_column.ensures.column.are_values

pub push_column-requires-clause-not_zero : goal.push_column-requires-clause-not_zero
push_column-requires-clause-not_zero g c = rw c.deref-in-loop-m.ensures.value c.in_ok-pair_column.ensures.column.not_zero

pub loop-m-preserved : goal.loop-m-preserved
loop-m-preserved g c =
    let s = g.S.Semiring.arithmetic in
    let laws = g.met.S.Semiring.is_semiring in
    let a = c.args.left.now in
    let b = c.args.right.now in
    let cs = c.column_numbers-outer in
    let ds = c.column_numbers-inner in
    let n = c.loop-n.n in
    let m = c.loop-m.m in
    let p = get_or cs.result.now n 0 in
    let q = get_or ds.result.now m 0 in
    let left_rows = c.nth_column.result.0.now in
    let left_values = c.nth_column.result.1.now in
    let rows = c.nth_column-in-loop-m.result.0.now in
    let values = c.nth_column-in-loop-m.result.1.now in
    let left_rows_are = nth_are a.entries cs.result.now left_rows n rows_of cs.ensures.numbers c.nth_column.ensures.rows in
    let left_values_are = nth_are a.entries cs.result.now left_values n values_of cs.ensures.numbers c.nth_column.ensures.values in
    let rows_are = nth_are b.entries ds.result.now rows m rows_of ds.ensures.numbers c.nth_column-in-loop-m.ensures.rows in
    let values_are = nth_are b.entries ds.result.now values m values_of ds.ensures.numbers c.nth_column-in-loop-m.ensures.values in
    let height_is : c.rows-height.result ≡ b.shape.rows = c.rows-height.ensures.value ∙ ap (λ (x : Extent). x.rows) c.shape.ensures.shape in
    let width_is : c.cols-width.result ≡ b.shape.cols = c.cols-width.ensures.value ∙ ap (λ (x : Extent). x.cols) c.shape-2.ensures.shape in
    let ks = c.pair_column.new.kept_rows.items in
    let ws = c.pair_column.new.kept_values.items in
    let f : ℕ → ℕ = λ i. pair_value s b.shape.rows (λ k. at s a k p) (λ k. at s b k q) i in
    let has = paired_has s a b p q left_rows left_values rows values ks ws left_rows_are left_values_are rows_are values_are height_is c.in_ok-pair_column.ensures.values in
    let before = column_before s laws a b c.requires.left c.requires.right cs.result.now ds.result.now cs.ensures.ascending ds.ensures.ascending cs.ensures.inside ds.ensures.inside cs.ensures.all ds.ensures.all c.loop-m.out n m c.loop-m-test.true c.loop-m.invariant in
    let stored = rw (c.deref.ensures.value, c.deref-in-loop-m.ensures.value, width_is) at c.in_ok-push_column.ensures.ok in
    let adds = column_adds s (p * b.shape.cols + q) f ks ws c.in_ok-pair_column.ensures.column has c.loop-m.out c.push_column.new.self before stored c.in_ok-push_column.ensures.matrix in
    column_more s laws a b c.requires.left c.requires.right cs.result.now ds.result.now cs.ensures.ascending ds.ensures.ascending cs.ensures.inside ds.ensures.inside cs.ensures.all ds.ensures.all c.loop-m.out c.push_column.new.self n m f c.loop-m-test.true adds (λ i. refl) c.loop-m.invariant

pub loop-n-preserved : goal.loop-n-preserved
loop-n-preserved g c =
    let s = g.S.Semiring.arithmetic in
    let laws = g.met.S.Semiring.is_semiring in
    let a = c.args.left.now in
    let b = c.args.right.now in
    let cs = c.column_numbers-outer in
    let ds = c.column_numbers-inner in
    column_all s laws a b c.requires.left c.requires.right cs.result.now ds.result.now cs.ensures.ascending ds.ensures.ascending cs.ensures.inside ds.ensures.inside cs.ensures.all ds.ensures.all c.loop-m.out c.loop-n.n c.loop-m.m c.loop-n-test.true (let t = c.loop-m-test.false in omega arith) c.loop-m.invariant

pub returns : goal.returns
returns g c =
    let s = g.S.Semiring.arithmetic in
    let laws = g.met.S.Semiring.is_semiring in
    let a = c.args.left.now in
    let b = c.args.right.now in
    let cs = c.column_numbers-outer in
    let ds = c.column_numbers-inner in
    columns_all s laws a b c.requires.left c.requires.right cs.result.now ds.result.now cs.ensures.ascending ds.ensures.ascending cs.ensures.inside ds.ensures.inside cs.ensures.all ds.ensures.all c.loop-n.out c.loop-n.n (let t = c.loop-n-test.false in omega arith) c.loop-n.invariant
