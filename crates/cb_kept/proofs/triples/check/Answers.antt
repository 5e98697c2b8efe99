use Rattle.std.proofs.Common.{rules, ◌≤◌}
use Rattle.cb_matrix.specs.declared.TheConstants.{LIMIT}
use Rattle.cb_kept.specs.Triples.{AreWithin, AreTripleValues}
use Rattle.cb_kept.proofs.TripleFaults.{none_of_triples}
use Rattle.cb_kept.proofs.triples.check.Goals as goal

pub returns-clause-none : goal.returns-clause-none
returns-clause-none g c =
    let fits : (c.args.nrows ≤ LIMIT) × (c.args.ncols ≤ LIMIT) = search rules in
    let within : AreWithin (record { rows = c.args.nrows; cols = c.args.ncols }) c.args.triples.now = search rules in
    let values : AreTripleValues g.S.Semiring.arithmetic c.args.triples.now = search rules in
    none_of_triples g.S.Semiring.arithmetic c.args.nrows c.args.ncols c.args.triples.now fits within values
