use Rattle.std.proofs.Common.{◌≡◌, ◌<◌, ◌+◌, ◌-◌, [], ◌∷◌, ◌++◌, length, sym, ap, ◌∙◌, arith, get_or, set}
use Rattle.std.proofs.lemmas.Bool.{false≢true}
use Rattle.cb_dcsc.specs.Columns.{with_entry}
use Rattle.cb_dcsc.specs.Compressed.{IsBlock, block_of}
use Rattle.cb_dcsc.proofs.Pushed.{pushed_same, pushed_new}
use Rattle.cb_dcsc.proofs.Block.push.Given as given
use Rattle.cb_dcsc.proofs.Block.push.Goals.{After-push_reserved-then-ends_with, After-push_reserved-3}
use Rattle.cb_dcsc.proofs.Block.push.Goals as goal

-- the block with the entry in its last column
in_last_column : (g : given.Over) (c : After-push_reserved-then-ends_with g) →
    let v = c.self.inside in
    let starts = set v.starts.items (c.len-last.result - 1) (c.len-len.result + 1) in
    let rows = c.push_reserved.new.self.items in
    let values = c.push_reserved-then-ends_with.new.self.items in
    IsBlock g.S.Semiring.arithmetic v.shape v.columns.items starts rows values × (block_of v.shape v.columns.items starts rows values ≡ with_entry c.args.self.now c.args.entry)
in_last_column g c =
    let v = c.self.inside in
    let ends = rw c.deref.ensures.value at (c.ends_with.ensures.0 c.if-ends_with.true) in
    let longer = c.self.invariant.lists.one_more_start ends.0 in
    let here = v.starts.ok.0 in
    let last = c.len-last.ensures in
    let there = v.rows.ok.0 in
    let count = c.len-len.ensures in
    let kept = c.in_ok-reserve_both.ensures.left_len in
    pushed_same g.S.Semiring.arithmetic v.shape _ _ _ _ c.self.invariant _ c.self.view_is c.args.entry c.requires.inside c.requires.order c.requires.value c.requires.not_zero _ _
    (c.push_reserved.ensures.items ∙ ap (λ xs. xs ++ c.args.entry.row ∷ []) c.in_ok-reserve_both.ensures.left)
    (c.push_reserved-then-ends_with.ensures.items ∙ ap (λ xs. xs ++ c.args.entry.value ∷ []) c.in_ok-reserve_both.ensures.right)
    ends _ _ (omega arith) (omega arith)

pub invariant_of-self-then-ends_with : goal.invariant_of-self-then-ends_with
invariant_of-self-then-ends_with g c = (in_last_column g (goal.at.invariant_of-self-then-ends_with g c).After-push_reserved-then-ends_with).0

pub returns-then-ends_with-clause-ok : goal.returns-then-ends_with-clause-ok
returns-then-ends_with-clause-ok g c = (in_last_column g (goal.at.returns-then-ends_with-clause-ok g c).After-push_reserved-then-ends_with).1

pub returns-then-ends_with-clause-matrix : goal.returns-then-ends_with-clause-matrix
returns-then-ends_with-clause-matrix g c = (in_last_column g (goal.at.returns-then-ends_with-clause-matrix g c).After-push_reserved-then-ends_with).0.matrix

-- the block with the entry in a column of its own
in_new_column : (g : given.Over) (c : After-push_reserved-3 g) →
    let shape = c.self.inside.shape in
    let columns = c.start_column.new.columns.items in
    let starts = c.start_column.new.starts.items in
    let rows = c.push_reserved-2.new.self.items in
    let values = c.push_reserved-3.new.self.items in
    IsBlock g.S.Semiring.arithmetic shape columns starts rows values × (block_of shape columns starts rows values ≡ with_entry c.args.self.now c.args.entry)
in_new_column g c =
    let v = c.self.inside in
    let other : (0 < length v.columns.items) × (get_or v.columns.items (length v.columns.items - 1) 0 ≡ c.args.entry.column) → ⊥ = λ e. false≢true (sym c.if-ends_with.false ∙ c.ends_with.ensures.1 (rw c.deref.ensures.value e)) in
    let there = v.rows.ok.0 in
    let count = c.len-len.ensures in
    let kept = c.in_ok-reserve_both.ensures.left_len in
    pushed_new g.S.Semiring.arithmetic v.shape _ _ _ _ c.self.invariant _ c.self.view_is c.args.entry c.requires.inside c.requires.order c.requires.value c.requires.not_zero _ _
    (c.push_reserved-2.ensures.items ∙ ap (λ xs. xs ++ c.args.entry.row ∷ []) c.in_ok-reserve_both.ensures.left)
    (c.push_reserved-3.ensures.items ∙ ap (λ xs. xs ++ c.args.entry.value ∷ []) c.in_ok-reserve_both.ensures.right)
    other _ _ c.len-len.result (omega arith) c.in_ok-start_column.ensures.columns c.in_ok-start_column.ensures.starts

pub invariant_of-self-2 : goal.invariant_of-self-2
invariant_of-self-2 g c = (in_new_column g (goal.at.invariant_of-self-2 g c).After-push_reserved-3).0

pub returns-clause-ok : goal.returns-clause-ok
returns-clause-ok g c = (in_new_column g (goal.at.returns-clause-ok g c).After-push_reserved-3).1

pub returns-clause-matrix : goal.returns-clause-matrix
returns-clause-matrix g c = (in_new_column g (goal.at.returns-clause-matrix g c).After-push_reserved-3).0.matrix

pub invariant_of-self : goal.invariant_of-self
invariant_of-self g c = rw (c.in_err-reserve_both.ensures.left, c.in_err-reserve_both.ensures.right) c.self.invariant

pub returns-in_err-reserve_both-clause-matrix : goal.returns-in_err-reserve_both-clause-matrix
returns-in_err-reserve_both-clause-matrix g c = rw (c.in_err-reserve_both.ensures.left, c.in_err-reserve_both.ensures.right) c.self.invariant.matrix

pub invariant_of-self-in_err-start_column : goal.invariant_of-self-in_err-start_column
invariant_of-self-in_err-start_column g c = rw (c.in_err-start_column.ensures.columns_stay, c.in_err-start_column.ensures.starts_stay, c.in_ok-reserve_both.ensures.left, c.in_ok-reserve_both.ensures.right) c.self.invariant

pub returns-in_err-start_column-clause-matrix : goal.returns-in_err-start_column-clause-matrix
returns-in_err-start_column-clause-matrix g c = rw (c.in_err-start_column.ensures.columns_stay, c.in_err-start_column.ensures.starts_stay, c.in_ok-reserve_both.ensures.left, c.in_ok-reserve_both.ensures.right) c.self.invariant.matrix
