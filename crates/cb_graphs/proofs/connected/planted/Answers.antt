use Rattle.std.proofs.Common.{◌≡◌, ◌∙◌, ℕ, cond, sym, ap, arith}
use Rattle.std.specs.Prelude.{◌==◌}
use Rattle.cb_searches.specs.Numbers.{number_at}
use Rattle.cb_searches.specs.Walks.{infinite}
use Rattle.cb_graphs.proofs.Trees.{joined_self, planted_trees, planted_keeps, planted_root, planted_alone, planted_roots}
use Rattle.cb_graphs.proofs.connected.planted.Goals as goal

pub returns-then-number_of-clause-trees : goal.returns-then-number_of-clause-trees
returns-then-number_of-clause-trees c a is inside entry =
    let p = number_at c.args.parents.now in
    let q = number_at c.set.new.self in
    let v = c.args.vertex in
    let value : c.from.result ≡ v = c.from.ensures in
    let set : (w : ℕ) → q w ≡ cond (w == v) v (p w) = λ w. c.in_ok-set.ensures.values w ∙ ap (λ (x : ℕ). cond (w == v) x (p w)) value in
    let none : p v ≡ infinite = sym c.number_of.ensures ∙ c.if-number_of.true in
    record {
      both = is.both;
      numbers = c.in_ok-set.ensures.numbers a.shape.rows is.numbers inside (omega (arith, value, c.ranges.vertex.fits));
      trees = planted_trees p q v set none (omega (arith, c.ranges.vertex.fits)) a is.trees inside entry;
    }

pub returns-then-number_of-clause-keeps : goal.returns-then-number_of-clause-keeps
returns-then-number_of-clause-keeps c =
    let p = number_at c.args.parents.now in
    let q = number_at c.set.new.self in
    let v = c.args.vertex in
    let set : (w : ℕ) → q w ≡ cond (w == v) v (p w) = λ w. c.in_ok-set.ensures.values w ∙ ap (λ (x : ℕ). cond (w == v) x (p w)) c.from.ensures in
    planted_keeps p q v set (sym c.number_of.ensures ∙ c.if-number_of.true) (omega (arith, c.ranges.vertex.fits))

pub returns-then-number_of-clause-roots : goal.returns-then-number_of-clause-roots
returns-then-number_of-clause-roots c r root l =
    let p = number_at c.args.parents.now in
    let q = number_at c.set.new.self in
    let v = c.args.vertex in
    let set : (w : ℕ) → q w ≡ cond (w == v) v (p w) = λ w. c.in_ok-set.ensures.values w ∙ ap (λ (x : ℕ). cond (w == v) x (p w)) c.from.ensures in
    planted_roots p q v set (sym c.number_of.ensures ∙ c.if-number_of.true) (omega (arith, c.ranges.vertex.fits)) r root l

pub returns-then-number_of-clause-root : goal.returns-then-number_of-clause-root
returns-then-number_of-clause-root c =
    let p = number_at c.args.parents.now in
    let q = number_at c.set.new.self in
    let v = c.args.vertex in
    let set : (w : ℕ) → q w ≡ cond (w == v) v (p w) = λ w. c.in_ok-set.ensures.values w ∙ ap (λ (x : ℕ). cond (w == v) x (p w)) c.from.ensures in
    planted_root p q v set (sym c.number_of.ensures ∙ c.if-number_of.true) (omega (arith, c.ranges.vertex.fits))

pub returns-then-number_of-clause-same : goal.returns-then-number_of-clause-same
returns-then-number_of-clause-same c =
    let p = number_at c.args.parents.now in
    let q = number_at c.set.new.self in
    let v = c.args.vertex in
    let set : (w : ℕ) → q w ≡ cond (w == v) v (p w) = λ w. c.in_ok-set.ensures.values w ∙ ap (λ (x : ℕ). cond (w == v) x (p w)) c.from.ensures in
    planted_alone p q v set (sym c.number_of.ensures ∙ c.if-number_of.true) (omega (arith, c.ranges.vertex.fits))

pub returns-then-number_of-clause-joined : goal.returns-then-number_of-clause-joined
returns-then-number_of-clause-joined c a is = joined_self a c.args.vertex
