use Rattle.std.proofs.Common.{◌≡◌, ◌≢◌, ◌+◌, ◌*◌, ◌<◌, get_or, sym, refl, ap, ◌∙◌, ⊎_elim, arith}
use Rattle.std.proofs.lemmas.Bool.{cases_eq}
use Rattle.std.proofs.lemmas.List.{get_or_default}
use Rattle.std.proofs.lemmas.List.Elements.{All-nil, All-weaker}
use Rattle.cb_matrix.proofs.Totals.{add_zero}
use Rattle.cb_product.proofs.RowValues.{row_value-none}
use Rattle.cb_product.proofs.ColumnSoFar.{column_value}
use Rattle.cb_product.proofs.DenseRowSums.{values_or_zero}
use Rattle.cb_product.proofs.MarkBits.{all_taken, zero_still, all_zero}
use Rattle.cb_product.proofs.sparse_accumulator.take_rows.Goals as goal

pub loop-n-init : goal.loop-n-init
loop-n-init g c =
    let s = g.S.Semiring.arithmetic in
    record {
      long = refl;
      groups_long = refl;
      accumulator = c.requires.accumulator;
      from = omega arith;
      used = c.requires.used;
      passed = c.requires.used.before;
      before = rw c.clear.ensures (All-nil (λ i. i < c.args.used.0 * 4096));
      together = λ i. ap (λ x. s.add x (get_or c.args.sums.now i s.zero)) (row_value-none s.zero _ _ i c.clear.ensures) ∙ g.met.S.Semiring.is_semiring.zero_add _ (values_or_zero s g.met.S.Semiring.is_semiring c.args.sums.now c.requires.accumulator.values i);
    }

pub take_group-requires-clause-accumulator : goal.take_group-requires-clause-accumulator
take_group-requires-clause-accumulator g c = c.loop-n.invariant.accumulator

pub take_group-requires-clause-before : goal.take_group-requires-clause-before
take_group-requires-clause-before g c = c.loop-n.invariant.before

pub returns-in_err-take_group-clause-used : goal.returns-in_err-take_group-clause-used
returns-in_err-take_group-clause-used g c =
    let inv = c.loop-n.invariant in
    let test = c.loop-n-test.true in
    let end = c.min-end.ensures in
    zero_still c.args.used.0 c.args.used.1 c.loop-n.n c.loop-n.groups _ inv.from (omega arith) c.take_group.ensures.others inv.used

pub loop-n-preserved : goal.loop-n-preserved
loop-n-preserved g c =
    let inv = c.loop-n.invariant in
    let n = c.loop-n.n in
    let test = c.loop-n-test.true in
    let end = c.min-end.ensures in
    let from = inv.from in
    record {
      long = c.take_group.ensures.length ∙ inv.long;
      groups_long = c.take_group.ensures.groups_length ∙ inv.groups_long;
      accumulator = c.take_group.ensures.accumulator;
      from = omega arith;
      used = zero_still c.args.used.0 c.args.used.1 n c.loop-n.groups _ inv.from (omega arith) c.take_group.ensures.others inv.used;
      passed = λ k l. ⊎_elim
          (λ (e : k ≡ n). ap (λ j. get_or c.take_group.new.groups j 0) e ∙ c.in_ok-take_group.ensures.none)
          (λ (e : k ≡ n → ⊥). let ne : k ≢ n = e in c.take_group.ensures.others k ne ∙ inv.passed k (omega arith))
          (cases_eq k n);
      before = All-weaker (λ i. i < n * 4096 + 4096) (λ i. i < (n + 1) * 4096) (λ i d. omega arith) _ c.in_ok-take_group.ensures.rows;
      together = λ i. c.in_ok-take_group.ensures.together i ∙ inv.together i;
    }

pub returns-clause-accumulator : goal.returns-clause-accumulator
returns-clause-accumulator g c = c.loop-n.invariant.accumulator

pub returns-clause-used : goal.returns-clause-used
returns-clause-used g c = c.loop-n.invariant.used

pub returns-clause-none : goal.returns-clause-none
returns-clause-none g c =
    let inv = c.loop-n.invariant in
    let test = c.loop-n-test.false in
    let end = c.min-end.ensures in
    let long = inv.groups_long in
    all_zero c.args.used.0 c.args.used.1 c.loop-n.n c.loop-n.groups (omega arith) inv.passed inv.used

pub returns-clause-zeros : goal.returns-clause-zeros
returns-clause-zeros g c =
    let z = g.S.Semiring.arithmetic.zero in
    let inv = c.loop-n.invariant in
    let test = c.loop-n-test.false in
    let end = c.min-end.ensures in
    let long = inv.groups_long in
    let none = all_zero c.args.used.0 c.args.used.1 c.loop-n.n c.loop-n.groups (omega arith) inv.passed inv.used in
    λ k d l. get_or_default c.loop-n.sums k d z l ∙ all_taken z c.loop-n.sums c.loop-n.marks c.loop-n.groups inv.accumulator.marked none k

pub returns-clause-column : goal.returns-clause-column
returns-clause-column g c =
    let s = g.S.Semiring.arithmetic in
    let laws = g.met.S.Semiring.is_semiring in
    let inv = c.loop-n.invariant in
    let test = c.loop-n-test.false in
    let end = c.min-end.ensures in
    let long = inv.groups_long in
    let none = all_zero c.args.used.0 c.args.used.1 c.loop-n.n c.loop-n.groups (omega arith) inv.passed inv.used in
    λ i. sym (add_zero s laws _ (column_value s laws _ c.entries.ensures.column i))
    ∙ ap (s.add _) (sym (all_taken s.zero c.loop-n.sums c.loop-n.marks c.loop-n.groups inv.accumulator.marked none i))
    ∙ inv.together i
