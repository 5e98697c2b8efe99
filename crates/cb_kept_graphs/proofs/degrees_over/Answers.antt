use Rattle.std.proofs.Common.{inl, inr, ap, ⊎_elim, ◌∙◌}
use Rattle.cb_matrix.specs.Sparse.{Sparse}
use Rattle.cb_graphs.specs.declared.graph_tasks.GraphAnswer.TheVariants.{Counts}
use Rattle.cb_graphs.specs.Degrees.{row_degrees, column_degrees}
use Rattle.cb_kept.proofs.Firsts.{no_more}
use Rattle.cb_kept_graphs.proofs.KeptGraphFaults.{degrees_answer}
use Rattle.cb_kept_graphs.proofs.degrees_over.Goals as goal
use Rattle.cb_kept_graphs.proofs.degrees_over.Goals.{in-ColumnDegrees+in_ok-column-in-ColumnDegrees, in_default+in_ok-column-in_default}

pub returns : goal.returns
returns g c =
    let s = g.S.Semiring.arithmetic in
    let column = c.match-task.column in
    let answer = degrees_answer s c.args.task c.args.matrix.now column c.keep_block.ensures.matrix
    (elim c.match-task.branch [
      | in-ColumnDegrees+in_ok-column-in-ColumnDegrees w ↦ inr (
        w.in-ColumnDegrees.is,
        w.column-is ∙ w.in_ok-column-in-ColumnDegrees.ensures ∙ ap (λ (b : Sparse). column_degrees s b) (w.block.ensures ∙ c.in_ok-whole.ensures),
      )
      | in_default+in_ok-column-in_default w ↦ inl (
        ⊎_elim (λ a. a) (λ a. absurd (w.in_default.not-ColumnDegrees a)) c.requires,
        w.column-is ∙ w.in_ok-column-in_default.ensures ∙ ap (λ (b : Sparse). row_degrees s b) (w.block-in_default.ensures ∙ c.in_ok-whole.ensures),
      )
    ]) in
    (no_more, (Counts column, answer, c.keep_block.ensures.keeps))
