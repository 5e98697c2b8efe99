use Rattle.std.proofs.Common.{◌≡◌, map, refl, ap, ◌∙◌}
use Rattle.cb_matrix.specs.Sparse.{Sparse, Extent}
use Rattle.cb_matrix.specs.Values.{empty_matrix}
use Rattle.cb_dcsc.specs.Columns.{columns_with_entries}
use Rattle.cb_dcsc.specs.Compressed.{with_column}
use Rattle.cb_graphs.proofs.DegreeCounts.{degree_entry, degree_entries, degrees_are}
use Rattle.cb_graphs.proofs.degrees.column_degrees.Goals as goal

pub returns : goal.returns
returns g c =
    let a = c.args.block.now in
    let es = a.entries in
    let cs = columns_with_entries es in
    let shape : c.one_column.result ≡ record { rows = a.shape.cols; cols = 1 } =
    c.one_column.ensures ∙ ap (λ n. let y : Extent = record { rows = n; cols = 1 } in y) (c.cols.ensures.value ∙ ap (λ (x : Extent). x.cols) c.shape.ensures.shape) in
    let empty : c.empty-degrees.result ≡ empty_matrix (record { rows = a.shape.cols; cols = 1 }) = c.empty-degrees.ensures.value ∙ ap empty_matrix shape in
    let made : c.push_column.new.self ≡ record { shape = record { rows = a.shape.cols; cols = 1 }; entries = map (degree_entry es) cs } =
    c.in_ok-push_column.ensures.ok
    ∙ (λ z. with_column (empty z) 0 (c.column_numbers.ensures.numbers z) ((c.deref.ensures.value ∙ c.in_ok-counts.ensures.counts) z))
    ∙ ap (λ xs. let y : Sparse = record { shape = record { rows = a.shape.cols; cols = 1 }; entries = xs } in y) (degree_entries es cs) in
    degrees_are g.S.Semiring.arithmetic a c.push_column.new.self cs c.shape.ensures.matrix c.push_column.ensures.matrix refl made
