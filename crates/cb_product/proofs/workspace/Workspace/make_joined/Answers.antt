use Rattle.cb_dcsc.proofs.Lookup.{all_values}
use Rattle.cb_product.proofs.workspace.Workspace.make_joined.Goals as goal

pub join_terms-requires-clause-values : goal.join_terms-requires-clause-values
join_terms-requires-clause-values g c = all_values g.S.Semiring.arithmetic c.args.left.now _ c.requires.left c.values-values.ensures
