use Rattle.cb_matrix.specs.Sparse.{Sparse}
use Rattle.cb_operations.specs.Operands.{lent_in}
use Rattle.cb_kept.specs.KeptUpdates.{update_of}
use Rattle.cb_kept.proofs.WholeColumns.{inside_values, keeps_columns}
use Rattle.cb_kept.proofs.kept_updates.ShareWriteBackKeptCall.over.Goals as goal

pub returns : goal.returns
returns g c =
    let s = g.S.Semiring.arithmetic in
    let it = c.args.self.now in
    let whole : Sparse = update_of it.call s (lent_in c.args.operands.now) in (
      c.in_ok-check_update.ensures.none,
      keeps_columns g.S.Keep.name whole c.in_ok-block.block it.first it.end c.keep_block.result (inside_values s _ _) c.in_ok-block.ensures c.keep_block.ensures.keeps,
    )
