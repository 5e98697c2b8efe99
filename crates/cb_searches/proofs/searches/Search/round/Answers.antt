use Rattle.std.proofs.Common.{◌∙◌, sym, ap, subst}
use Rattle.cb_semirings.specs.Tables.{min_plus}
use Rattle.cb_matrix.specs.Sparse.{Sparse, Extent}
use Rattle.cb_matrix.specs.Values.{product}
use Rattle.cb_searches.specs.Numbers.{AreNumbers}
use Rattle.cb_searches.proofs.NearestRounds.{search_advanced}
use Rattle.cb_searches.proofs.searches.Search.round.Goals as goal

pub relax-requires-clause-agree : goal.relax-requires-clause-agree
relax-requires-clause-agree c = ap (λ (m : Sparse). m.shape.cols) c.requires.round.4 ∙ sym (ap (λ (e : Extent). e.rows) c.requires.round.3.shape)

pub relax-requires-clause-column : goal.relax-requires-clause-column
relax-requires-clause-column c = ap (λ (e : Extent). e.cols) c.requires.round.3.shape

pub relax-requires-clause-finite : goal.relax-requires-clause-finite
relax-requires-clause-finite c =
    subst (λ n. AreNumbers n c.args.self.known) (c.requires.round.3.square ∙ sym (ap (λ (m : Sparse). m.shape.rows) c.requires.round.4)) c.requires.round.3.numbers

pub returns : goal.returns
returns c = λ a source k is e.
    search_advanced a source k c.args.self is (product min_plus c.args.edges.now c.args.self.fell) (record { known = c.relax.new.known; fell = c.in_ok-fell.fell }) c.shape-shape.ensures.matrix (ap (λ (m : Sparse). product min_plus m c.args.self.fell) e)
    c.in_ok-fell.ensures.finite c.in_ok-fell.ensures.least c.in_ok-fell.ensures.shape c.in_ok-fell.ensures.new c.in_ok-fell.ensures.old
