use Rattle.std.proofs.Common.{◌∙◌, sym, subst}
use Rattle.cb_semirings.specs.Tables.{or_and}
use Rattle.cb_matrix.specs.Sparse.{IsMatrix}
use Rattle.cb_searches.proofs.TurnedUnits.{turned_bits, turned_same}
use Rattle.cb_searches.proofs.UnitWeights.{weights_there, weights_stored}
use Rattle.cb_searches.proofs.one_block.unit_edges.Goals as goal

pub recast-requires : goal.recast-requires
recast-requires c =
    record { values = weights_stored c.in_ok-turned.turned (subst (IsMatrix or_and) (sym c.in_ok-turned.ensures) (turned_bits c.args.graph.now c.shape-shape.ensures.matrix)) }

pub returns : goal.returns
returns c =
    let a = c.args.graph.now in
    let is = c.shape-shape.ensures.matrix in
    record { matrix = weights_there a is; square = c.requires; turned = c.recast.ensures ∙ c.in_ok-turned.ensures ∙ turned_same a is }
