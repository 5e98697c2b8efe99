use Rattle.std.proofs.Common.{◌≡◌, sym, ap, subst, ◌∙◌, map}
use Rattle.cb_matrix.specs.Sparse.{Sparse}
use Rattle.cb_matrix.specs.Values.{empty_matrix}
use Rattle.cb_searches.specs.Numbers.{number_at, AreNumbers}
use Rattle.cb_searches.specs.Settling.{AreEdges, IsSettling, first_at, tentative}
use Rattle.cb_searches.proofs.SettledVertices.{edges_turned, search_settled}
use Rattle.cb_searches.proofs.searches.Search.settle.Goals as goal

pub settle-requires : goal.settle-requires
settle-requires c =
    record { numbers = subst (λ n. AreNumbers n c.args.self.known) (c.requires.round.3.square ∙ sym (ap (λ (m : Sparse). m.shape.rows) c.requires.round.4)) c.requires.round.3.numbers }

pub returns : goal.returns
returns c = λ a source k is e.
    let edges : AreEdges c.args.edges.now a = subst (λ (m : Sparse). AreEdges m a) (sym e) (edges_turned a is.matrix) in
    let rows : c.args.edges.now.shape.rows ≡ a.shape.rows = ap (λ (m : Sparse). m.shape.rows) e ∙ sym is.square in
    search_settled a source k c.args.self (record { known = c.settle.new.known; fell = c.empty.result }) is (subst (λ n. AreNumbers n c.settle.new.known) rows c.in_ok-settle.ensures.numbers)
    (c.empty.ensures ∙ ap empty_matrix c.shape-shape.ensures.shape)
    (λ h. c.in_ok-settle.ensures.settled a (first_at source) edges (subst (λ es. IsSettling a (first_at source) (number_at c.args.self.known) (map tentative es)) (sym c.entries.ensures) h))
