use Rattle.std.proofs.Common.{vec_len, ◌≡◌, ◌≢◌, subst, sym, ap, ◌∙◌, arith}
use Rattle.std.proofs.lemmas.Bool.{eqb-true, eqb-false}
use Rattle.cb_matrix.specs.declared.Entry.{Entry}
use Rattle.cb_matrix.specs.Sparse.{Sparse}
use Rattle.std.specs.Prelude.{List}
use Rattle.cb_dcsc.specs.Compressed.{AreNonempty}
use Rattle.cb_dcsc.proofs.Csc.{no_rows, nonempty_block}
use Rattle.cb_dcsc.proofs.Block.from_csc.Goals as goal

pub returns-then-is_empty : goal.returns-then-is_empty
returns-then-is_empty g c =
    let count = c.args.rows.ok.0 in
    let none : vec_len c.args.rows ≡ 0 = eqb-true (vec_len c.args.rows) 0 (sym c.is_empty.ensures ∙ c.if-is_empty.true) in
    c.empty.ensures.value
    ∙ ap (λ (es : List Entry). let m : Sparse = record { shape = c.args.shape; entries = es } in m) (sym (no_rows c.args.starts.now c.args.rows.items c.args.values.items c.args.shape.cols (omega arith)))

pub invariant_of-result : goal.invariant_of-result
invariant_of-result g c =
    let count = c.args.rows.ok.0 in
    let some : vec_len c.args.rows ≢ 0 = eqb-false (vec_len c.args.rows) 0 (sym c.is_empty.ensures ∙ c.if-is_empty.false) in
    let kept = subst (λ n. AreNonempty n c.args.starts.now c.in_ok-columns.columns.items c.in_ok-columns.starts.items) c.cols.ensures.value c.in_ok-columns.ensures in
    nonempty_block g.S.Semiring.arithmetic c.args.shape c.args.starts.now _ _ _ _ c.requires.starts kept (omega arith) c.requires.matrix
