use Rattle.std.proofs.Common.{◌≡◌, ◌∙◌, subst, arith}
use Rattle.std.specs.Prelude.{IfOk}
use Rattle.cb_matrix.specs.Sparse.{Sparse}
use Rattle.cb_operations.specs.Operands.{lent_in}
use Rattle.cb_operations.specs.Computations.{answer_of}
use Rattle.cb_shares.specs.Shares.{panel}
use Rattle.cb_shares.proofs.Ranges.{all_columns}
use Rattle.cb_panels.proofs.ranges.make_all.Goals as goal

pub make_ranges-requires-clause-ranges : goal.make_ranges-requires-clause-ranges
make_ranges-requires-clause-ranges g c κs within =
    record {
      ascending = c.requires.all.ascending;
      some = c.requires.ends;
      within = omega arith;
    }

pub returns : goal.returns
returns g c =
    let s = g.S.Semiring.arithmetic in
    let whole : Sparse = answer_of c.args.computation s (lent_in c.args.operands.now) in
    let last = c.requires.all.last c.requires.ends in
    let same = (λ i. panel whole 0 (last i)) ∙ all_columns s whole whole.shape.cols c.requires.operands.matrix (omega arith) in
    subst (λ (m : Sparse). IfOk c.make_ranges.result (λ n. n ≡ m)) same c.make_ranges.ensures
