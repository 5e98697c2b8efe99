use Rattle.std.proofs.Common.{◌≡◌, List, ap, ◌∙◌, sym, subst, arith}
use Rattle.std.specs.Prelude.{All, AllPairs}
use Rattle.std.proofs.lemmas.List.Sorted.{All-permutation}
use Rattle.std.proofs.lemmas.Result.{IfOk-weaker}
use Rattle.cb_semirings.specs.Arithmetic.{IsValue}
use Rattle.cb_matrix.specs.declared.Entry.{Entry}
use Rattle.cb_matrix.specs.Sparse.{Sparse, IsBefore, IsInside}
use Rattle.cb_reshape.specs.Rows.{rows_within}
use Rattle.cb_reshape.proofs.Within.{within_matrix}
use Rattle.cb_reshape.proofs.Exchanged.{written, exchanged_ascends, exchanged_inside, exchanged_values, exchanged_not_zero, exchanged_all}
use Rattle.cb_reshape.proofs.transpose_by_sorting.Goals as goal

pub from_ordered-requires-clause-order : goal.from_ordered-requires-clause-order
from_ordered-requires-clause-order g c =
    let given = written _ _ _ _ _ c.in_ok-entries.ensures c.deref_mut.ensures.value c.exchange.ensures (let k = c.in_ok-entries.entries.ok.0 in omega arith) in
    let o = c.in_ok-entries-2.ensures in
    subst (AllPairs IsBefore) (sym c.deref.ensures.value)
    (exchanged_ascends g.S.Semiring.arithmetic (rows_within c.args.rows c.args.block.now) (within_matrix g.S.Semiring.arithmetic c.args.rows c.args.block.now c.requires.matrix) _ c.in_ok-entries-2.entries.items given o.order o.same (λ P. All-permutation P _ _ o.permutation))

pub from_ordered-requires-clause-inside : goal.from_ordered-requires-clause-inside
from_ordered-requires-clause-inside g c =
    let given = written _ _ _ _ _ c.in_ok-entries.ensures c.deref_mut.ensures.value c.exchange.ensures (let k = c.in_ok-entries.entries.ok.0 in omega arith) in
    let o = c.in_ok-entries-2.ensures in
    subst (All (IsInside c.args.shape)) (sym c.deref.ensures.value)
    (exchanged_inside g.S.Semiring.arithmetic (rows_within c.args.rows c.args.block.now) (within_matrix g.S.Semiring.arithmetic c.args.rows c.args.block.now c.requires.matrix) _ c.in_ok-entries-2.entries.items given o.order o.same (λ P. All-permutation P _ _ o.permutation) c.args.shape c.requires.shape)

pub from_ordered-requires-clause-values : goal.from_ordered-requires-clause-values
from_ordered-requires-clause-values g c =
    let given = written _ _ _ _ _ c.in_ok-entries.ensures c.deref_mut.ensures.value c.exchange.ensures (let k = c.in_ok-entries.entries.ok.0 in omega arith) in
    let o = c.in_ok-entries-2.ensures in
    subst (All (λ (e : Entry). IsValue g.S.Semiring.arithmetic e.value)) (sym c.deref.ensures.value)
    (exchanged_values g.S.Semiring.arithmetic (rows_within c.args.rows c.args.block.now) (within_matrix g.S.Semiring.arithmetic c.args.rows c.args.block.now c.requires.matrix) _ c.in_ok-entries-2.entries.items given o.order o.same (λ P. All-permutation P _ _ o.permutation))

pub from_ordered-requires-clause-not_zero : goal.from_ordered-requires-clause-not_zero
from_ordered-requires-clause-not_zero g c =
    let given = written _ _ _ _ _ c.in_ok-entries.ensures c.deref_mut.ensures.value c.exchange.ensures (let k = c.in_ok-entries.entries.ok.0 in omega arith) in
    let o = c.in_ok-entries-2.ensures in
    subst (All (λ (e : Entry). e.value ≡ g.S.Semiring.arithmetic.zero → ⊥)) (sym c.deref.ensures.value)
    (exchanged_not_zero g.S.Semiring.arithmetic (rows_within c.args.rows c.args.block.now) (within_matrix g.S.Semiring.arithmetic c.args.rows c.args.block.now c.requires.matrix) _ c.in_ok-entries-2.entries.items given o.order o.same (λ P. All-permutation P _ _ o.permutation))

pub returns : goal.returns
returns g c =
    let given = written _ _ _ _ _ c.in_ok-entries.ensures c.deref_mut.ensures.value c.exchange.ensures (let k = c.in_ok-entries.entries.ok.0 in omega arith) in
    let o = c.in_ok-entries-2.ensures in
    IfOk-weaker c.from_ordered.result _ _
    (λ m is. exchanged_all g.S.Semiring.arithmetic (rows_within c.args.rows c.args.block.now) (within_matrix g.S.Semiring.arithmetic c.args.rows c.args.block.now c.requires.matrix) _ c.in_ok-entries-2.entries.items given o.order o.same (λ P. All-permutation P _ _ o.permutation) g.met.S.Semiring.is_semiring c.args.shape m c.requires.shape
    (is ∙ ap (λ (es : List Entry). let x : Sparse = record { shape = c.args.shape; entries = es } in x) c.deref.ensures.value))
    c.from_ordered.ensures
