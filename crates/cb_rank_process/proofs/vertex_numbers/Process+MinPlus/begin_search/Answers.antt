use Rattle.std.proofs.Common.{◌≡◌, ◌<◌, length, rules, ap, ◌∙◌, arith}
use Rattle.cb_semirings.specs.Tables.{min_plus}
use Rattle.cb_matrix.specs.Sparse.{Extent}
use Rattle.cb_search_columns.specs.SearchColumns.{source_column}
use Rattle.cb_rank_process.specs.Processes.{KeptView}
use Rattle.cb_rank_process.specs.VertexNumbers.{kept_of}
use Rattle.cb_rank_process.proofs.SearchedBlocks.{begins_search}
use Rattle.cb_rank_process.proofs.vertex_numbers.Process+MinPlus.begin_search.Goals as goal

pub returns-clause-begins : goal.returns-clause-begins
returns-clause-begins c =
    let x = c.args.self.now in
    let kept = c.in-Some.kept.now in
    let source = c.args.source in
    let rows : c.kept-2.inside.shape.rows ≡ kept.shape.rows = ap (λ (k : KeptView). k.shape.rows) c.kept-2.view_is in
    let cols : c.kept-2.inside.shape.cols ≡ kept.shape.cols = ap (λ (k : KeptView). k.shape.cols) c.kept-2.view_is in
    let square : kept.shape.rows ≡ kept.shape.cols = omega arith in
    let vertex : source < kept.shape.rows = omega arith in
    let first : c.args.known < length x.registers = search rules in
    let second : c.args.fell < length x.registers = search rules in
    let there = ap (λ n. kept_of min_plus x (source_column n source)) rows in
    begins_search x c.put.new.self c.put-2.new.self c.args.graph source c.args.known c.args.fell kept c.in_ok-numbers.numbers c.in_ok-fallen.fallen c.in-Some.ensures.some square vertex first second
    (c.in_ok-numbers.ensures.numbers ∙ there) (c.in_ok-fallen.ensures.numbers ∙ there) c.put.ensures c.put-2.ensures
