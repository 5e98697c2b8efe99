use Rattle.std.proofs.Common.{◌≡◌, ◌+◌, ◌*◌, ◌<◌, List, ◌++◌, length, get_or, set, ap, sym, subst, ◌∙◌, arith}
use Rattle.std.specs.Prelude.{All}
use Rattle.std.proofs.lemmas.List.{length-set, length-map}
use Rattle.std.proofs.lemmas.List.Elements.{All-weaker}
use Rattle.cb_matrix.specs.declared.Entry.{Entry}
use Rattle.cb_matrix.specs.Sparse.{Sparse}
use Rattle.cb_dcsc.specs.Columns.{in_column, columns_with_entries, rows_of, values_of}
use Rattle.cb_grid.specs.Parts.{part_start}
use Rattle.cb_grid.specs.Blocks.{block_at}
use Rattle.cb_layout.specs.Fronts.{IsLeast, columns_in}
use Rattle.cb_layout.specs.Segments.{entries_left}
use Rattle.cb_layout.proofs.Fronts.{least_known, least_is, are_next}
use Rattle.cb_layout.proofs.BlockColumns.{column_inside, rows_inside, column_is, some_in}
use Rattle.cb_layout.proofs.RemainingEntries.{stepped_left}
use Rattle.cb_layout.proofs.traversal.GridSegments.next_segment.Given as given
use Rattle.cb_layout.proofs.traversal.GridSegments.next_segment.Goals.{In-Some, After-nth_column}
use Rattle.cb_layout.proofs.traversal.GridSegments.next_segment.Goals as goal

-- the row of the grid that the next column is in, and the column among those of its block
next : (g : given.Over) (c : In-Some g) →
    let q = c.self.inside.grid.side in
    let bs = c.self.inside.blocks.now in
    let f = c.reach.new.front in
    let i = c.in-Some.row in
    let n = get_or f.done i 0 in
    IsLeast q f.columns i c.in-Some.column × (i < q) × (n < length (columns_in q bs f.column i)) × (c.in-Some.column ≡ get_or (columns_in q bs f.column i) n 0)
next g c =
    let q = c.self.inside.grid.side in
    let shape = c.self.inside.shape in
    let bs = c.self.inside.blocks.now in
    let f = c.reach.new.front in
    let front = c.reach.ensures.front in
    let i = c.in-Some.row in
    let x = c.in-Some.column in
    let least : IsLeast q f.columns i x = rw c.in-Some.is at front.some in
    (least, least.row, least_known q shape bs f front i x least, least_is q shape bs f front i x least)

-- the entries of that column
rows_and_values : (g : given.Over) (c : After-nth_column g) →
    let f = c.reach.new.front in
    let i = c.in-Some.row in
    let q = c.self.inside.grid.side in
    let bs = c.self.inside.blocks.now in
    let es : List Entry = in_column (get_or (columns_in q bs f.column i) (get_or f.done i 0) 0) (block_at bs (i * q + f.column)).entries in
    (c.nth_column.result.0.now ≡ rows_of es) × (c.nth_column.result.1.now ≡ values_of es)
rows_and_values g c =
    let n = get_or c.reach.new.front.done c.in-Some.row 0 in
    let read = c.block_in-block.ensures in (
      c.nth_column.ensures.rows ∙ ap (λ (b : Sparse). rows_of (in_column (get_or (columns_with_entries b.entries) n 0) b.entries)) read,
      c.nth_column.ensures.values ∙ ap (λ (b : Sparse). values_of (in_column (get_or (columns_with_entries b.entries) n 0) b.entries)) read,
    )

pub overflow_add-column : goal.overflow_add-column
overflow_add-column g c =
    let next = next g (goal.at.overflow_add-column g c).In-Some in
    let inside = column_inside _ g.met.S.Semiring.is_semiring _ _ _ c.self.invariant.are_blocks c.in-Some.row _ next.1 c.reach.ensures.front.column _ next.2 in
    let number = next.3 in
    let left = c.reach.ensures.front.left in
    let limit = c.reach.ensures.front.limit in
    omega arith

pub step-requires-clause-some : goal.step-requires-clause-some
step-requires-clause-some g c =
    let f = c.reach.new.front in
    let own = c.column_numbers.ensures.numbers ∙ ap (λ (b : Sparse). columns_with_entries b.entries) c.block_in-block.ensures in
    subst (λ xs. get_or f.done c.in-Some.row 0 < length xs) (sym own) (next g (goal.at.step-requires-clause-some g c).In-Some).2

pub nth_column-requires : goal.nth_column-requires
nth_column-requires g c =
    let f = c.reach.new.front in
    subst (λ (b : Sparse). get_or f.done c.in-Some.row 0 < length (columns_with_entries b.entries)) (sym c.block_in-block.ensures) (next g (goal.at.nth_column-requires g c).In-Some).2

-- how the front steps
stepped : (g : given.Over) (c : After-nth_column g) →
    let f = c.reach.new.front in
    let i = c.in-Some.row in
    c.step.new.self.columns ≡ set f.columns i (get_or (columns_in c.self.inside.grid.side c.self.inside.blocks.now f.column i) (get_or f.done i 0 + 1) 4294967295)
stepped g c =
    let f = c.reach.new.front in
    let i = c.in-Some.row in
    let own = c.column_numbers.ensures.numbers ∙ ap (λ (b : Sparse). columns_with_entries b.entries) c.block_in-block.ensures in
    c.step.ensures.columns ∙ ap (λ xs. set f.columns i (get_or xs (get_or f.done i 0 + 1) 4294967295)) own

pub invariant_of-self-2 : goal.invariant_of-self-2
invariant_of-self-2 g c =
    let q = c.self.inside.grid.side in
    let shape = c.self.inside.shape in
    let f = c.reach.new.front in
    let front = c.reach.ensures.front in
    let i = c.in-Some.row in
    let step = c.step.ensures in
    let after = (goal.at.invariant_of-self-2 g c).After-nth_column in
    let columns = stepped g after in
    record {
      are_blocks = c.self.invariant.are_blocks;
      front = record {
        column = subst (λ j. j < q) (sym step.column) front.column;
        few = front.few;
        limit = front.limit;
        left = step.left ∙ front.left ∙ ap (part_start q shape.cols) (sym step.column);
        all_done = ap length step.done ∙ length-set f.done i (get_or f.done i 0 + 1) ∙ front.all_done;
        all_columns = ap length columns ∙ length-set f.columns i _ ∙ front.all_columns;
        next = are_next q shape c.self.inside.blocks.now f front i c.in-Some.column (next g (goal.at.invariant_of-self-2 g c).In-Some).0 c.step.new.self step.column step.left step.done columns;
        some = step.some;
        none = step.none;
      };
      limit = c.self.invariant.limit;
      all = c.self.invariant.all;
      begin = c.self.invariant.begin;
    }

pub returns-clause-some : goal.returns-clause-some
returns-clause-some g c =
    let s = g.S.Semiring.arithmetic in
    let laws = g.met.S.Semiring.is_semiring in
    let q = c.self.inside.grid.side in
    let shape = c.self.inside.shape in
    let bs = c.self.inside.blocks.now in
    let are = c.self.invariant.are_blocks in
    let f = c.reach.new.front in
    let front = c.reach.ensures.front in
    let i = c.in-Some.row in
    let x = c.in-Some.column in
    let step = c.step.ensures in
    let next = next g (goal.at.returns-clause-some g c).In-Some in
    let after = (goal.at.returns-clause-some g c).After-nth_column in
    let own = rows_and_values g after in
    sym c.self.view_is
    ∙ sym c.reach.ensures.left
    ∙ stepped_left s laws q shape bs are f front i x next.0 c.step.new.self step.column step.left step.done (stepped g after)
    ∙ ap (λ (es : List Entry). es ++ entries_left s q shape bs c.step.new.self)
    (sym (column_is s laws q shape bs are i f.column next.1 front.column _ (get_or c.self.inside.tops i 0) (f.left + x) c.nth_column.result.0.now c.nth_column.result.1.now
    (c.self.invariant.begin i next.1) (λ t. front.left t + next.3 t) own.0 own.1))

pub returns-clause-entries : goal.returns-clause-entries
returns-clause-entries g c =
    let i = c.in-Some.row in
    let f = c.reach.new.front in
    let some = some_in (block_at c.self.inside.blocks.now (i * c.self.inside.grid.side + f.column)).entries (get_or f.done i 0) (next g (goal.at.returns-clause-entries g c).In-Some).2 in
    let count = ap length (rows_and_values g (goal.at.returns-clause-entries g c).After-nth_column).0 ∙ length-map _ (λ (e : Entry). e.row) in
    omega arith

pub returns-clause-inside : goal.returns-clause-inside
returns-clause-inside g c =
    let s = g.S.Semiring.arithmetic in
    let laws = g.met.S.Semiring.is_semiring in
    let q = c.self.inside.grid.side in
    let shape = c.self.inside.shape in
    let bs = c.self.inside.blocks.now in
    let are = c.self.invariant.are_blocks in
    let f = c.reach.new.front in
    let front = c.reach.ensures.front in
    let i = c.in-Some.row in
    let next = next g (goal.at.returns-clause-inside g c).In-Some in
    let row = next.1 in
    let number = next.3 in
    let rows = (rows_and_values g (goal.at.returns-clause-inside g c).After-nth_column).0 in
    let inside = column_inside s laws q shape bs are i f.column row front.column (get_or f.done i 0) next.2 in
    let left = front.left in
    let limit = front.limit in
    let height = c.self.invariant.limit in
    let top = c.self.invariant.begin i row in (
      omega arith,
      subst (λ xs. All (λ y. get_or c.self.inside.tops i 0 + y < 2147483647) xs) (sym rows)
          (All-weaker (λ y. part_start q shape.rows i + y < shape.rows) (λ y. get_or c.self.inside.tops i 0 + y < 2147483647) (λ y h. omega arith) _ (rows_inside s laws q shape bs are i f.column row front.column _)),
    )
