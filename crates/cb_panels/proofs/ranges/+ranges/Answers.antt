use Rattle.std.proofs.Common.{rules, ◌≡◌, ◌≤◌, ◌-◌, ◌∙◌, sym, subst, arith, slice_index}
use Rattle.cb_matrix.specs.Sparse.{Sparse, IsMatrix}
use Rattle.cb_dcsc.specs.Columns.{with_entries}
use Rattle.cb_product.proofs.OnlyColumns.{only_matrix}
use Rattle.cb_operations.specs.Operands.{lent_in}
use Rattle.cb_operations.specs.Computations.{answer_of}
use Rattle.cb_shares.specs.Shares.{columns_from, panel}
use Rattle.cb_shares.proofs.Neighbours.{neighbours_joined}
use Rattle.cb_panels.proofs.ranges.+ranges.Goals as goal

pub join-requires-clause-matrix : goal.join-requires-clause-matrix
join-requires-clause-matrix g t c =
    let s = g.S.Semiring.arithmetic in
    let ends = c.args.ends.now in
    let n = c.args.count in
    let whole : Sparse = answer_of c.args.computation s (lent_in c.args.operands.now) in
    let q = slice_index ends (n - 2) in
    let r = slice_index ends (n - 1) in
    let up : q ≤ r = c.requires.ranges.ascending (n - 2) (n - 1) 0 (omega arith) (omega arith) in
    let first : c.in_ok-front.front ≡ panel whole 0 q = search rules in
    let last : c.in_ok-back.back ≡ panel whole q r = search rules in
    let both = neighbours_joined s whole c.requires.operands.matrix 0 q r (omega arith) up in
    subst (IsMatrix s) (sym ((λ i. with_entries (first i) (last i).entries) ∙ both)) (only_matrix s (columns_from 0 r) whole c.requires.operands.matrix)

pub make_ranges-requires-clause-ranges : goal.make_ranges-requires-clause-ranges
make_ranges-requires-clause-ranges g t c κs within =
    record {
      ascending = c.requires.ranges.ascending;
      some = omega arith;
      within = omega arith;
    }

pub returns : goal.returns
returns g t c =
    let s = g.S.Semiring.arithmetic in
    let ends = c.args.ends.now in
    let n = c.args.count in
    let whole : Sparse = answer_of c.args.computation s (lent_in c.args.operands.now) in
    let q = slice_index ends (n - 2) in
    let r = slice_index ends (n - 1) in
    let up : q ≤ r = c.requires.ranges.ascending (n - 2) (n - 1) 0 (omega arith) (omega arith) in
    let first : c.in_ok-front.front ≡ panel whole 0 q = search rules in
    let last : c.in_ok-back.back ≡ panel whole q r = search rules in
    let joined = c.in_ok-join.ensures.panels whole c.requires.operands.matrix 0 q r (omega arith) up first last in
    joined.0
