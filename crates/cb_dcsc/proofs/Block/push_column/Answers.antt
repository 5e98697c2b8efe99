use Rattle.std.proofs.Common.{◌≡◌, ◌==◌, ◌++◌, sym, ap, ◌∙◌, arith}
use Rattle.std.proofs.lemmas.Bool.{false≢true, eqb-true}
use Rattle.cb_dcsc.specs.Compressed.{IsBlock, block_of, with_column}
use Rattle.cb_dcsc.proofs.WholeColumn.{column_pushed, no_column}
use Rattle.cb_dcsc.proofs.Block.push_column.Given as given
use Rattle.cb_dcsc.proofs.Block.push_column.Goals.{After-extend_reserved-2}
use Rattle.cb_dcsc.proofs.Block.push_column.Goals as goal

pub returns-then-is_empty-clause-ok : goal.returns-then-is_empty-clause-ok
returns-then-is_empty-clause-ok g c =
    no_column _ c.args.column _ _ (eqb-true _ 0 (sym c.is_empty.ensures ∙ c.if-is_empty.true))

-- the block with the column
with_it : (g : given.Over) (c : After-extend_reserved-2 g) →
    let shape = c.self.inside.shape in
    let columns = c.start_column.new.columns.items in
    let starts = c.start_column.new.starts.items in
    let rows = c.extend_reserved.new.list.items in
    let values = c.extend_reserved-2.new.list.items in
    IsBlock g.S.Semiring.arithmetic shape columns starts rows values × (block_of shape columns starts rows values ≡ with_column c.args.self.now c.args.column c.args.rows.now c.args.values.now)
with_it g c =
    let v = c.self.inside in
    let r = c.requires in
    let there = v.rows.ok.0 in
    let count = c.len-len.ensures in
    column_pushed g.S.Semiring.arithmetic v.shape _ _ _ _ c.self.invariant _ c.self.view_is c.args.column r.before c.args.rows.now c.args.values.now _ _ _ _ _ (λ z. false≢true (sym c.if-is_empty.false ∙ (c.is_empty.ensures ∙ ap (λ n. n == 0) z))) r.lengths r.ascending r.rows r.column r.values r.not_zero
    c.in_ok-start_column.ensures.columns c.in_ok-start_column.ensures.starts (omega arith)
    (c.extend_reserved.ensures ∙ ap (λ xs. xs ++ c.args.rows.now) c.in_ok-reserve_both.ensures.left)
    (c.extend_reserved-2.ensures ∙ ap (λ xs. xs ++ c.args.values.now) c.in_ok-reserve_both.ensures.right)

pub invariant_of-self-2 : goal.invariant_of-self-2
invariant_of-self-2 g c = (with_it g (goal.at.invariant_of-self-2 g c).After-extend_reserved-2).0

pub returns-clause-ok : goal.returns-clause-ok
returns-clause-ok g c = (with_it g (goal.at.returns-clause-ok g c).After-extend_reserved-2).1

pub returns-clause-matrix : goal.returns-clause-matrix
returns-clause-matrix g c = (with_it g (goal.at.returns-clause-matrix g c).After-extend_reserved-2).0.matrix

pub invariant_of-self : goal.invariant_of-self
invariant_of-self g c = rw (c.in_err-reserve_both.ensures.left, c.in_err-reserve_both.ensures.right) c.self.invariant

pub returns-in_err-reserve_both-clause-matrix : goal.returns-in_err-reserve_both-clause-matrix
returns-in_err-reserve_both-clause-matrix g c = rw (c.in_err-reserve_both.ensures.left, c.in_err-reserve_both.ensures.right) c.self.invariant.matrix

pub invariant_of-self-in_err-start_column : goal.invariant_of-self-in_err-start_column
invariant_of-self-in_err-start_column g c = rw (c.in_err-start_column.ensures.columns_stay, c.in_err-start_column.ensures.starts_stay, c.in_ok-reserve_both.ensures.left, c.in_ok-reserve_both.ensures.right) c.self.invariant

pub returns-in_err-start_column-clause-matrix : goal.returns-in_err-start_column-clause-matrix
returns-in_err-start_column-clause-matrix g c = rw (c.in_err-start_column.ensures.columns_stay, c.in_err-start_column.ensures.starts_stay, c.in_ok-reserve_both.ensures.left, c.in_ok-reserve_both.ensures.right) c.self.invariant.matrix
