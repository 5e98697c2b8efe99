use Rattle.std.proofs.Common.{◌≡◌, ℕ, ◌<◌, length, get_or, sym, subst, ◌∙◌, arith}
use Rattle.std.proofs.lemmas.List.{get_or_default}
use Rattle.std.proofs.lemmas.List.Elements.{All-get_or}
use Rattle.cb_semirings.specs.Arithmetic.{IsValue}
use Rattle.cb_matrix.specs.Sparse.{IsMatrix}
use Rattle.cb_matrix.proofs.Made.{IsMatrix-matrix_of}
use Rattle.std.proofs.lemmas.Result.{IfOk-weaker}
use Rattle.cb_reshape.proofs.ListedColumn.{stored_none, stored_next, not_stored, all_stored, one_start, one_column}
use Rattle.cb_reshape.proofs.column_of_list.Goals as goal
use Rattle.cb_reshape.proofs.column_of_list.Goals.{then-value-zero, else-value-zero}

pub loop-row-init : goal.loop-row-init
loop-row-init g c =
    let s = g.S.Semiring.arithmetic in
    record {
      are = stored_none s (λ i. get_or c.args.values.now i s.zero) _ _ c.in_ok-rows.ensures.items c.in_ok-stored.ensures.items;
      rows_room = omega (arith, c.in_ok-rows.ensures);
      values_room = omega (arith, c.in_ok-stored.ensures);
    }

pub loop-row-preserved : goal.loop-row-preserved
loop-row-preserved g c =
    let s = g.S.Semiring.arithmetic in
    let values = c.args.values.now in
    let f : ℕ → ℕ = λ i. get_or values i s.zero in
    let n = c.loop-row.row in
    let inv = c.loop-row.invariant in
    let rows = c.loop-row.rows.items in
    let stored = c.loop-row.stored.items in
    let l : n < length values = omega (arith, c.loop-row-test.true, c.rows-row-end.ensures.value, c.requires.length) in
    let value : get_or values n 0 ≡ f n = get_or_default values n 0 s.zero l in
    let in_bound : IsValue s (get_or values n 0) = All-get_or (IsValue s) values n 0 l c.requires.values in
    elim c.if-value-zero.branch [
      | then-value-zero w ↦
          rw (w.rows-is, w.stored-is) (record {
            are = rw (w.push_reserved.ensures.items, w.push_reserved-then-value-zero.ensures.items)
                (stored_next s f n rows stored (get_or values n 0) value in_bound (λ e. w.if-value-zero.true (e ∙ sym c.zero.ensures)) inv.are);
            rows_room = omega (arith, l, inv.rows_room, w.push_reserved.ensures.len, w.push_reserved.ensures.capacity);
            values_room = omega (arith, l, inv.values_room, w.push_reserved-then-value-zero.ensures.len, w.push_reserved-then-value-zero.ensures.capacity);
          })
      | else-value-zero w ↦
          rw (w.rows-is, w.stored-is) (record {
            are = not_stored s f n rows stored (get_or values n 0) value (w.if-value-zero.false ∙ c.zero.ensures) inv.are;
            rows_room = omega (arith, inv.rows_room);
            values_room = omega (arith, inv.values_room);
          })
    ]

pub from_csc-requires-clause-starts : goal.from_csc-requires-clause-starts
from_csc-requires-clause-starts g c =
    let count : c.len.result ≡ length c.loop-row.rows.items = omega (arith, c.len.ensures, c.loop-row.rows.ok.0) in
    rw c.requires.column (one_start c.len.result c.loop-row.rows.items c.loop-row.stored.items count c.loop-row.invariant.are.same_length)

pub from_csc-requires-clause-matrix : goal.from_csc-requires-clause-matrix
from_csc-requires-clause-matrix g c =
    let s = g.S.Semiring.arithmetic in
    let f : ℕ → ℕ = λ i. get_or c.args.values.now i s.zero in
    let all : c.args.shape.rows ≡ c.loop-row.row = omega (arith, c.loop-row-test.false, c.loop-row.auto.row-end, c.rows-row-end.ensures.value) in
    let count : c.len.result ≡ length c.loop-row.rows.items = omega (arith, c.len.ensures, c.loop-row.rows.ok.0) in
    subst (IsMatrix s) (sym (one_column c.args.shape c.len.result c.loop-row.rows.items c.loop-row.stored.items c.requires.column count c.loop-row.invariant.are.same_length ∙ all_stored s f c.args.shape c.loop-row.row c.loop-row.rows.items c.loop-row.stored.items c.requires.column all c.loop-row.invariant.are))
    (IsMatrix-matrix_of s c.args.shape (λ i _. f i) (λ i j l _. All-get_or (IsValue s) c.args.values.now i s.zero (rw c.requires.length l) c.requires.values))

pub returns : goal.returns
returns g c =
    let s = g.S.Semiring.arithmetic in
    let f : ℕ → ℕ = λ i. get_or c.args.values.now i s.zero in
    let all : c.args.shape.rows ≡ c.loop-row.row = omega (arith, c.loop-row-test.false, c.loop-row.auto.row-end, c.rows-row-end.ensures.value) in
    let count : c.len.result ≡ length c.loop-row.rows.items = omega (arith, c.len.ensures, c.loop-row.rows.ok.0) in
    IfOk-weaker c.from_csc.result _ _
    (λ m is. is ∙ one_column c.args.shape c.len.result c.loop-row.rows.items c.loop-row.stored.items c.requires.column count c.loop-row.invariant.are.same_length ∙ all_stored s f c.args.shape c.loop-row.row c.loop-row.rows.items c.loop-row.stored.items c.requires.column all c.loop-row.invariant.are)
    c.from_csc.ensures
