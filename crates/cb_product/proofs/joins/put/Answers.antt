use Rattle.std.proofs.Common.{◌≡◌, ◌+◌, take, [], ◌∷◌, ◌++◌, slice_set, sym, ◌∙◌}
use Rattle.std.proofs.lemmas.Bool.{false≢true}
use Rattle.std.proofs.lemmas.List.{take-set, take_more_set}
use Rattle.cb_product.proofs.ColumnSoFar.{kept_none, kept_column, kept_sum}
use Rattle.cb_product.proofs.joins.put.Goals as goal

pub returns-then-is_zero-clause-sum : goal.returns-then-is_zero-clause-sum
returns-then-is_zero-clause-sum g c =
    let n = c.args.n in
    let rows_are : take n (slice_set c.args.rows.now n c.args.row) ≡ take n c.args.rows.now = take-set _ _ _ in
    let values_are : take n (slice_set c.args.values.now n c.args.value) ≡ take n c.args.values.now = take-set _ _ _ in
    rw (rows_are, values_are) (kept_none g.S.Semiring.arithmetic g.met.S.Semiring.is_semiring _ _ c.requires.column c.args.row c.args.value c.requires.value (c.is_zero.ensures.0 c.if-is_zero.true))

pub returns-else-is_zero-clause-column : goal.returns-else-is_zero-clause-column
returns-else-is_zero-clause-column g c =
    let n = c.args.n in
    let rows_are : take (n + 1) (slice_set c.args.rows.now n c.args.row) ≡ take n c.args.rows.now ++ c.args.row ∷ [] = take_more_set _ _ _ c.requires.room in
    let values_are : take (n + 1) (slice_set c.args.values.now n c.args.value) ≡ take n c.args.values.now ++ c.args.value ∷ [] = take_more_set _ _ _ c.requires.values_room in
    rw (rows_are, values_are) (kept_column g.S.Semiring.arithmetic g.met.S.Semiring.is_semiring _ _ c.requires.column c.args.row c.args.value c.requires.value c.requires.after (λ e. false≢true (sym c.if-is_zero.false ∙ c.is_zero.ensures.1 e)))

pub returns-else-is_zero-clause-sum : goal.returns-else-is_zero-clause-sum
returns-else-is_zero-clause-sum g c =
    let n = c.args.n in
    let rows_are : take (n + 1) (slice_set c.args.rows.now n c.args.row) ≡ take n c.args.rows.now ++ c.args.row ∷ [] = take_more_set _ _ _ c.requires.room in
    let values_are : take (n + 1) (slice_set c.args.values.now n c.args.value) ≡ take n c.args.values.now ++ c.args.value ∷ [] = take_more_set _ _ _ c.requires.values_room in
    rw (rows_are, values_are) (kept_sum g.S.Semiring.arithmetic g.met.S.Semiring.is_semiring _ _ c.requires.column c.args.row c.args.value c.requires.value c.requires.after)
