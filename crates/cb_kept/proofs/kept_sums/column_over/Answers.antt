use Rattle.std.proofs.Common.{rules, ◌≡◌, ℕ, sym, subst}
use Rattle.cb_matrix.specs.Sparse.{Sparse}
use Rattle.cb_shares.specs.Sums.{IsColumnOf}
use Rattle.cb_kept.specs.Answers.{NoFault}
use Rattle.cb_kept.specs.KeptSums.{sum_faults}
use Rattle.cb_kept.proofs.kept_sums.column_over.Goals as goal

pub returns : goal.returns
returns g c =
    let s = g.S.Semiring.arithmetic in
    let list = c.args.list.now in
    let rows : c.unwrap-shape.result.rows ≡ c.args.like.now.shape.rows = search rules in (
      subst (λ (n : ℕ). NoFault (sum_faults s n list)) rows c.in_ok-check_sums.ensures.none,
      record {
        semiring = c.keep_block.ensures.keeps.semiring;
        column = subst (λ (m : Sparse). IsColumnOf s list m) (sym c.keep_block.ensures.keeps.matrix) c.in_ok-block.ensures;
      },
    )
