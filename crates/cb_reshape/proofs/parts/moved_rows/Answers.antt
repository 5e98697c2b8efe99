use Rattle.std.proofs.Common.{◌≡◌, ◌<◌, ap, ◌∙◌, sym, subst, arith, length, get_or}
use Rattle.std.specs.Prelude.{All}
use Rattle.cb_matrix.specs.Sparse.{Sparse, IsMatrix}
use Rattle.cb_dcsc.proofs.Lookup.{as_long}
use Rattle.cb_reshape.proofs.PartOfBlock.{columns_begin, columns_more, columns_end, next_before, column_not_zero, in_shape}
use Rattle.cb_reshape.proofs.parts.moved_rows.Goals as goal

pub loop-n-init : goal.loop-n-init
loop-n-init g c =
    record {
      entries = columns_begin c.args.part c.args.block.now.entries c.requires.matrix.ascending c.args.shape _ _ _ _ c.column_numbers-columns.ensures.numbers c.first_from-first.ensures.within c.first_from-first.ensures.below c.in_ok-reserve.ensures.same c.empty-out.ensures.value;
      matrix = subst (IsMatrix g.S.Semiring.arithmetic) (sym c.in_ok-reserve.ensures.same) c.empty-out.ensures.matrix;
    }

pub append_column-requires-clause-before : goal.append_column-requires-clause-before
append_column-requires-clause-before g c =
    let within : c.loop-n.n < length c.column_numbers-columns.result.now = let t = c.loop-n-test.true in let w = c.first_from-last.ensures.within in omega arith in
    next_before c.args.part c.args.block.now.entries c.requires.matrix.ascending c.args.shape c.loop-n.out c.column_numbers-columns.result.now c.loop-n.n (get_or c.column_numbers-columns.result.now c.loop-n.n 0) c.column_numbers-columns.ensures.numbers within (λ _. get_or c.column_numbers-columns.result.now c.loop-n.n 0) c.loop-n.invariant.entries

pub append_column-requires-clause-fits : goal.append_column-requires-clause-fits
append_column-requires-clause-fits g c = in_shape c.args.part c.args.shape c.loop-n.out _ c.loop-n.invariant.entries c.requires.fits

pub append_column-requires-clause-not_zero : goal.append_column-requires-clause-not_zero
append_column-requires-clause-not_zero g c = subst (All (λ v. v ≡ g.S.Semiring.arithmetic.zero → ⊥)) (sym c.nth_column.ensures.values) (column_not_zero g.S.Semiring.arithmetic.zero _ c.args.block.now.entries c.requires.matrix.not_zero)

pub loop-n-preserved : goal.loop-n-preserved
loop-n-preserved g c =
    let within : c.loop-n.n < length c.column_numbers-columns.result.now = let t = c.loop-n-test.true in let w = c.first_from-last.ensures.within in omega arith in
    record {
      entries = columns_more c.args.part c.args.block.now.entries c.requires.matrix.ascending c.args.shape c.loop-n.out c.append_column.new.out c.column_numbers-columns.result.now _ _ c.loop-n.n (get_or c.column_numbers-columns.result.now c.loop-n.n 0) c.column_numbers-columns.ensures.numbers within (λ _. get_or c.column_numbers-columns.result.now c.loop-n.n 0) c.nth_column.ensures.rows c.nth_column.ensures.values c.loop-n.invariant.entries c.in_ok-append_column.ensures.entries;
      matrix = c.in_ok-append_column.ensures.matrix;
    }

pub returns-clause-entries : goal.returns-clause-entries
returns-clause-entries g c =
    c.loop-n.invariant.entries
    ∙ ap (λ es. let m : Sparse = record { shape = c.args.shape; entries = es } in m) (columns_end c.args.part c.args.block.now.entries c.requires.matrix.ascending c.args.shape c.column_numbers-columns.result.now c.loop-n.n c.column_numbers-columns.ensures.numbers (λ k m l. c.first_from-last.ensures.from k (let t = c.loop-n-test.false in omega arith) l))

pub first_from-first-requires : goal.first_from-first-requires
first_from-first-requires g c = c.column_numbers-columns.ensures.ascending

pub first_from-last-requires : goal.first_from-last-requires
first_from-last-requires g c = c.column_numbers-columns.ensures.ascending

pub append_column-requires-clause-matrix : goal.append_column-requires-clause-matrix
append_column-requires-clause-matrix g c = c.loop-n.invariant.matrix

pub append_column-requires-clause-column_start : goal.append_column-requires-clause-column_start
append_column-requires-clause-column_start g c =
    c.first_from-first.ensures.from c.loop-n.n c.loop-n.auto.n (let t = c.loop-n-test.true in let w = c.first_from-last.ensures.within in omega arith)

pub append_column-requires-clause-column_end : goal.append_column-requires-clause-column_end
append_column-requires-clause-column_end g c = c.first_from-last.ensures.below c.loop-n.n c.loop-n-test.true

pub append_column-requires-clause-order : goal.append_column-requires-clause-order
append_column-requires-clause-order g c = c.nth_column.ensures.ascending

pub append_column-requires-clause-lengths : goal.append_column-requires-clause-lengths
append_column-requires-clause-lengths g c = as_long c.args.block.now.entries _ _ _ c.nth_column.ensures.rows c.nth_column.ensures.values

pub append_column-requires-clause-values : goal.append_column-requires-clause-values
append_column-requires-clause-values g c = c.nth_column.ensures.are_values
