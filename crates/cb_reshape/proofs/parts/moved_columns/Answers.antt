use Rattle.std.proofs.Common.{◌<◌, ◌∙◌, arith}
use Rattle.std.proofs.lemmas.List.Elements.{All-weaker}
use Rattle.cb_matrix.specs.Sparse.{IsInside}
use Rattle.cb_dcsc.specs.Columns.{with_entries}
use Rattle.cb_reshape.proofs.PartOfBlock.{whole_columns}
use Rattle.cb_reshape.proofs.parts.moved_columns.Goals as goal

pub returns-clause-entries : goal.returns-clause-entries
returns-clause-entries g c =
    let block = c.args.block.now in
    let part = c.args.part in
    let all = c.requires.rows in
    let inside = All-weaker (IsInside block.shape) (λ e. e.row < part.rows.1) (λ e k. let row = k.0 in omega arith) block.entries c.requires.matrix.inside in
    let whole = whole_columns part block.entries c.requires.first inside in
    c.in_ok-append_columns.ensures.ok ∙ (λ t. with_entries (c.empty-out.ensures.value t) (whole t))
