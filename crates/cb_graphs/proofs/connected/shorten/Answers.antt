use Rattle.std.proofs.Common.{◌≡◌, ◌<◌, ◌∙◌, ℕ, cond, ap, arith}
use Rattle.std.specs.Prelude.{◌==◌}
use Rattle.cb_searches.specs.Numbers.{number_at}
use Rattle.cb_searches.specs.Walks.{infinite}
use Rattle.cb_graphs.proofs.Trees.{shorter_trees, shorter}
use Rattle.cb_graphs.proofs.connected.shorten.Goals as goal

pub set-requires : goal.set-requires
set-requires c =
    let g = c.requires.trees in
    record { vertex = (g.0.shape.rows, g.1.numbers, g.1.trees.inside c.args.vertex c.requires.vertex) }

pub returns-clause-trees : goal.returns-clause-trees
returns-clause-trees c a is =
    let p = number_at c.args.parents.now in
    let q = number_at c.set.new.self in
    let v = c.args.vertex in
    let some = c.requires.vertex in
    let value : c.from.result ≡ p (p v) = c.from.ensures ∙ c.parent_of-above.ensures ∙ ap p c.parent_of-parent.ensures in
    let set : (w : ℕ) → q w ≡ cond (w == v) (p (p v)) (p w) = λ w. c.in_ok-set.ensures.values w ∙ ap (λ (x : ℕ). cond (w == v) x (p w)) value in
    let less : c.from.result < infinite = omega (arith, value, is.trees.low v some, is.trees.low (p v) (is.trees.closed v some), c.ranges.vertex.fits) in
    record {
      both = is.both;
      numbers = c.in_ok-set.ensures.numbers a.shape.rows is.numbers (is.trees.inside v some) less;
      trees = shorter_trees p q v set a is.trees some;
    }

pub returns-clause-shorter : goal.returns-clause-shorter
returns-clause-shorter c =
    let g = c.requires.trees in
    let p = number_at c.args.parents.now in
    let q = number_at c.set.new.self in
    let v = c.args.vertex in
    let value : c.from.result ≡ p (p v) = c.from.ensures ∙ c.parent_of-above.ensures ∙ ap p c.parent_of-parent.ensures in
    let set : (w : ℕ) → q w ≡ cond (w == v) (p (p v)) (p w) = λ w. c.in_ok-set.ensures.values w ∙ ap (λ (x : ℕ). cond (w == v) x (p w)) value in
    shorter p q v set g.0 g.1.trees c.requires.vertex
