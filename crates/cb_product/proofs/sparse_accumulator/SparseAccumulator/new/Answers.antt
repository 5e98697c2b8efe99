use Rattle.std.proofs.Common.{◌≡◌, ◌+◌, ◌/◌, ◌∙◌, length, ap, arith, refl}
use Rattle.std.specs.Prelude.{All}
use Rattle.std.proofs.lemmas.List.{length-replicate}
use Rattle.std.proofs.lemmas.List.Elements.{All-replicate}
use Rattle.cb_product.proofs.DenseRowSums.{values_filled}
use Rattle.cb_product.proofs.MarkBits.{marked_none, all_same}
use Rattle.cb_product.proofs.sparse_accumulator.SparseAccumulator.new.Goals as goal

pub invariant_of-result : goal.invariant_of-result
invariant_of-result g c =
    let s = g.S.Semiring.arithmetic in
    let sums_are = c.in_ok-sums.ensures.items_if_clones_equal (λ y e. e) in
    let marks_are = c.in_ok-marks.ensures.items_if_clones_equal (λ y e. e) in
    let groups_are = c.in_ok-groups.ensures.items_if_clones_equal (λ y e. e) in
    let zeros : All (λ x. x ≡ s.zero) c.in_ok-sums.sums.items = rw sums_are (All-replicate (λ x. x ≡ s.zero) c.args.rows c.zero.result c.zero.ensures) in
    let none : All (λ x. x ≡ 0) c.in_ok-marks.marks.items = rw marks_are (All-replicate (λ x. x ≡ 0) (c.args.rows / 64 + 1) 0 refl) in
    let none_too : All (λ x. x ≡ 0) c.in_ok-groups.groups.items = rw groups_are (All-replicate (λ x. x ≡ 0) (c.args.rows / 4096 + 1) 0 refl) in
    let long = ap length sums_are ∙ length-replicate c.args.rows c.zero.result in
    let marks_long = ap length marks_are ∙ length-replicate (c.args.rows / 64 + 1) 0 in
    let groups_long = ap length groups_are ∙ length-replicate (c.args.rows / 4096 + 1) 0 in
    let fits = c.ranges.rows.fits in (
      record {
        values = values_filled s g.met.S.Semiring.is_semiring _ zeros;
        marked = marked_none s.zero _ _ _ zeros none none_too (omega arith) (omega arith) (omega arith);
      },
      record { before = λ k l. all_same 0 c.in_ok-groups.groups.items none_too k; after = λ k l. all_same 0 c.in_ok-groups.groups.items none_too k },
    )

pub returns-clause-length : goal.returns-clause-length
returns-clause-length g c = ap length (c.in_ok-sums.ensures.items_if_clones_equal (λ y e. e)) ∙ length-replicate c.args.rows c.zero.result

pub returns-clause-zeros : goal.returns-clause-zeros
returns-clause-zeros g c =
    let s = g.S.Semiring.arithmetic in
    rw (c.in_ok-sums.ensures.items_if_clones_equal (λ y e. e)) (All-replicate (λ x. x ≡ s.zero) c.args.rows c.zero.result c.zero.ensures)
