use Rattle.std.proofs.Common.{sym, ap, subst}
use Rattle.cb_matrix.specs.Sparse.{Extent}
use Rattle.cb_searches.specs.Numbers.{AreNumbers}
use Rattle.cb_searches.proofs.NearestRounds.{reached_shape, search_advanced}
use Rattle.cb_searches.proofs.searches.Search.advance.Goals as goal

pub take_lower-requires-clause-column : goal.take_lower-requires-clause-column
take_lower-requires-clause-column c =
    ap (λ (e : Extent). e.cols) (reached_shape c.requires.round.0 c.requires.round.1 c.requires.round.2 c.args.self c.requires.round.3 c.args.reached.now c.requires.round.4)

pub take_lower-requires-clause-finite : goal.take_lower-requires-clause-finite
take_lower-requires-clause-finite c =
    subst (λ (e : Extent). AreNumbers e.rows c.args.self.known) (sym (reached_shape c.requires.round.0 c.requires.round.1 c.requires.round.2 c.args.self c.requires.round.3 c.args.reached.now c.requires.round.4)) c.requires.round.3.numbers

pub returns : goal.returns
returns c = λ a source k is r.
    search_advanced a source k c.args.self is c.args.reached.now (record { known = c.take_lower.new.known; fell = c.in_ok-fell.fell }) c.shape-shape.ensures.matrix r
    c.in_ok-fell.ensures.finite c.in_ok-fell.ensures.least c.in_ok-fell.ensures.shape c.in_ok-fell.ensures.new c.in_ok-fell.ensures.old
