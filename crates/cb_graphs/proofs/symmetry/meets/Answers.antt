use Rattle.std.proofs.Common.{◌≡◌, ◌<◌, ◌∙◌, ℕ, List, length, get_or, subst, sym, ap, arith}
use Rattle.std.specs.Prelude.{Contains}
use Rattle.std.proofs.lemmas.List.Elements.{Contains-get_or}
use Rattle.cb_dcsc.specs.Columns.{in_column, rows_of}
use Rattle.cb_searches.proofs.ColumnEdges.{row_edge}
use Rattle.cb_graphs.proofs.symmetry.meets.Goals as goal

pub returns-clause-entry : goal.returns-clause-entry
returns-clause-entry c _ =
    let s = c.args.graph.now in
    let rows = c.nth_column.result.0.now in
    let next = get_or c.args.met.now c.number_of-place.result 0 in
    let inside : next < length rows = omega (arith, c.if-next-rows.false) in
    let all : rows ≡ rows_of (in_column c.args.column s.entries) = c.nth_column.ensures.rows ∙ ap (λ (v : ℕ). rows_of (in_column v s.entries)) (sym c.column_number.ensures ∙ c.if-column_number-column.false) in
    row_edge s c.shape-shape.ensures.matrix c.args.row c.args.column
    (subst (λ (xs : List ℕ). Contains xs c.args.row) all (subst (Contains rows) c.if-rows-next.false (Contains-get_or rows next 0 inside)))
