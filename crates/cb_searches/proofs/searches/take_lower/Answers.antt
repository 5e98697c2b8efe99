use Rattle.std.proofs.Common.{◌∙◌, sym, ap, subst}
use Rattle.std.specs.Prelude.{filter}
use Rattle.cb_semirings.specs.Tables.{min_plus}
use Rattle.cb_matrix.specs.Sparse.{Sparse, Extent, IsMatrix, at}
use Rattle.cb_searches.specs.Numbers.{is_lower}
use Rattle.cb_searches.proofs.LowerEntries.{number_fits, lower_apart, lower_column, lower_matrix, lower_finite, lower_least, lower_new, lower_old}
use Rattle.cb_searches.proofs.searches.take_lower.Goals as goal

pub take_over-requires-clause-rows : goal.take_over-requires-clause-rows
take_over-requires-clause-rows c =
    lower_apart c.args.reached.now c.shape-shape.ensures.matrix c.requires.column c.args.known.now c.deref.result.now (c.deref.ensures.value ∙ c.in_ok-lower.ensures ∙ ap (filter (is_lower c.args.known.now)) c.entries.ensures)

pub take_over-requires-clause-column : goal.take_over-requires-clause-column
take_over-requires-clause-column c =
    lower_column c.args.reached.now c.shape-shape.ensures.matrix c.requires.column c.args.known.now c.deref.result.now (c.deref.ensures.value ∙ c.in_ok-lower.ensures ∙ ap (filter (is_lower c.args.known.now)) c.entries.ensures)

pub take_over-requires-clause-numbers : goal.take_over-requires-clause-numbers
take_over-requires-clause-numbers c = (
  c.args.reached.now.shape.rows,
  c.requires.finite,
  lower_finite c.args.reached.now c.shape-shape.ensures.matrix c.requires.column c.args.known.now c.deref.result.now (c.deref.ensures.value ∙ c.in_ok-lower.ensures ∙ ap (filter (is_lower c.args.known.now)) c.entries.ensures),
)

pub from_ordered-requires : goal.from_ordered-requires
from_ordered-requires c =
    subst (λ (s : Extent). IsMatrix min_plus (record { shape = s; entries = c.in_ok-lower.lower.items })) (sym c.shape-shape.ensures.shape)
    (lower_matrix c.args.reached.now c.shape-shape.ensures.matrix c.requires.column c.args.known.now c.in_ok-lower.lower.items (c.in_ok-lower.ensures ∙ ap (filter (is_lower c.args.known.now)) c.entries.ensures))

pub returns-clause-finite : goal.returns-clause-finite
returns-clause-finite c =
    c.in_ok-take_over.ensures.finite c.args.reached.now.shape.rows c.requires.finite
    (lower_finite c.args.reached.now c.shape-shape.ensures.matrix c.requires.column c.args.known.now c.deref.result.now (c.deref.ensures.value ∙ c.in_ok-lower.ensures ∙ ap (filter (is_lower c.args.known.now)) c.entries.ensures))

pub returns-clause-least : goal.returns-clause-least
returns-clause-least c v =
    c.in_ok-take_over.ensures.values v
    ∙ lower_least c.args.reached.now c.shape-shape.ensures.matrix c.requires.column c.args.known.now c.deref.result.now (c.deref.ensures.value ∙ c.in_ok-lower.ensures ∙ ap (filter (is_lower c.args.known.now)) c.entries.ensures)
    (number_fits c.args.reached.now.shape.rows c.args.known.now c.requires.finite) v

pub returns-clause-new : goal.returns-clause-new
returns-clause-new c v l =
    ap (λ (m : Sparse). at min_plus m v 0) c.from_ordered.ensures
    ∙ lower_new c.args.reached.now c.shape-shape.ensures.matrix c.requires.column c.args.known.now c.in_ok-lower.lower.items (c.in_ok-lower.ensures ∙ ap (filter (is_lower c.args.known.now)) c.entries.ensures)
    (number_fits c.args.reached.now.shape.rows c.args.known.now c.requires.finite) v l

pub returns-clause-old : goal.returns-clause-old
returns-clause-old c v l =
    ap (λ (m : Sparse). at min_plus m v 0) c.from_ordered.ensures
    ∙ lower_old c.args.reached.now c.shape-shape.ensures.matrix c.requires.column c.args.known.now c.in_ok-lower.lower.items (c.in_ok-lower.ensures ∙ ap (filter (is_lower c.args.known.now)) c.entries.ensures)
    (number_fits c.args.reached.now.shape.rows c.args.known.now c.requires.finite) v l
