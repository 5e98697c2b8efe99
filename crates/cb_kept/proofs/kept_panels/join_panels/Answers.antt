use Rattle.std.proofs.Common.{rules, ◌≡◌}
use Rattle.cb_shares.specs.Shares.{AreBefore}
use Rattle.cb_shares.proofs.Neighbours.{before_matrix}
use Rattle.cb_kept.proofs.kept_panels.join_panels.Goals as goal

pub join-requires-clause-matrix : goal.join-requires-clause-matrix
join-requires-clause-matrix g c =
    let front = c.args.front.now in
    let back = c.args.back.now in
    let shapes : back.shape ≡ front.shape = search rules in
    let before : AreBefore front.entries back.entries = search rules in
    before_matrix g.S.Semiring.arithmetic front back c.shape-2.ensures.matrix c.shape.ensures.matrix shapes before
