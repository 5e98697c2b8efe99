use Rattle.std.proofs.Common.{vec_len, ◌≡◌, ◌≢◌, ◌+◌, length, replicate, sym, ap, ◌∙◌, arith}
use Rattle.std.proofs.lemmas.Bool.{eqb-true, eqb-false}
use Rattle.cb_dcsc.proofs.OneRow.{row_block, row_entries, row_none}
use Rattle.cb_dcsc.proofs.Block.from_row.Goals.{In_ok-starts}
use Rattle.cb_dcsc.proofs.Block.from_row.Goals as goal

pub returns-then-is_empty-clause-entries : goal.returns-then-is_empty-clause-entries
returns-then-is_empty-clause-entries g c =
    let count = c.args.columns.ok.0 in
    let none : vec_len c.args.columns ≡ 0 = eqb-true (vec_len c.args.columns) 0 (sym c.is_empty.ensures ∙ c.if-is_empty.true) in
    c.empty.ensures.value ∙ row_none c.args.shape c.args.row c.args.columns.items c.args.values.items (omega arith)

pub invariant_of-result : goal.invariant_of-result
invariant_of-result g c =
    let r = c.requires in
    let count = c.args.columns.ok.0 in
    let some : vec_len c.args.columns ≢ 0 = eqb-false (vec_len c.args.columns) 0 (sym c.is_empty.ensures ∙ c.if-is_empty.false) in
    let size : c.len-2.result ≡ length c.args.columns.items = c.len-2.ensures ∙ count in
    let long = c.in_ok-starts.ensures.length ∙ ap (λ n. n + 1) size in
    let filled = c.in_ok-rows.ensures.items_if_clones_equal (λ y e. e) ∙ ap (λ n. replicate n c.args.row) (c.len.ensures ∙ count) in
    row_block c.args.row c.args.columns.items c.in_ok-starts.starts.items c.in_ok-rows.rows.items c.args.values.items r.lengths long (λ k l. c.in_ok-starts.ensures.numbers k (omega arith)) filled
    g.S.Semiring.arithmetic c.args.shape (omega arith) r.row r.ascending r.columns r.values r.not_zero

pub returns-clause-entries : goal.returns-clause-entries
returns-clause-entries g c =
    let r = c.requires in
    let count = c.args.columns.ok.0 in
    let size : c.len-2.result ≡ length c.args.columns.items = c.len-2.ensures ∙ count in
    let long = c.in_ok-starts.ensures.length ∙ ap (λ n. n + 1) size in
    let filled = c.in_ok-rows.ensures.items_if_clones_equal (λ y e. e) ∙ ap (λ n. replicate n c.args.row) (c.len.ensures ∙ count) in
    let all = row_entries c.args.row c.args.columns.items c.in_ok-starts.starts.items c.in_ok-rows.rows.items c.args.values.items r.lengths long (λ k l. c.in_ok-starts.ensures.numbers k (omega arith)) filled in
    λ t. record { shape = c.args.shape; entries = all t }

pub returns-clause-matrix : goal.returns-clause-matrix
returns-clause-matrix g c = (invariant_of-result g c).matrix
