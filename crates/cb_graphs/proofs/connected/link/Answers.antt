use Rattle.std.proofs.Common.{◌≡◌, ◌<◌, ◌∙◌, ℕ, cond, ap, arith}
use Rattle.std.specs.Prelude.{◌==◌}
use Rattle.cb_searches.specs.Numbers.{number_at}
use Rattle.cb_searches.specs.Walks.{infinite}
use Rattle.cb_graphs.proofs.Trees.{joined_to, tree_trans, tree_kept, keeps_trans, hooked_trees, hooked_keeps, hooked_root, hooked_same}
use Rattle.cb_graphs.proofs.connected.link.Goals as goal

pub set-requires : goal.set-requires
set-requires c =
    let g = c.requires.trees in
    let r = c.args.root in
    let root : number_at c.planted.new.parents r ≡ r = c.in_ok-other.ensures.roots r c.requires.root (omega (arith, c.ranges.root.fits)) in
    let is = c.in_ok-other.ensures.trees g.0 g.1 g.2.inside g.2.entered in
    record { vertex = (g.0.shape.rows, is.numbers, is.trees.inside r (λ z. omega (arith, z, root, c.ranges.root.fits))) }

pub returns-then-other-root-clause-trees : goal.returns-then-other-root-clause-trees
returns-then-other-root-clause-trees c a before reached =
    let p = number_at c.planted.new.parents in
    let q = number_at c.set.new.self in
    let r = c.args.root in
    let o = c.in_ok-other.other in
    let is = c.in_ok-other.ensures.trees a before reached.inside reached.entered in
    let root : p r ≡ r = c.in_ok-other.ensures.roots r c.requires.root (omega (arith, c.ranges.root.fits)) in
    let set : (w : ℕ) → q w ≡ cond (w == r) o (p w) = λ w. c.in_ok-set.ensures.values w ∙ ap (λ (x : ℕ). cond (w == r) x (p w)) c.from.ensures in
    let less : o < r = c.if-other-root.true in
    record {
      both = is.both;
      numbers = c.in_ok-set.ensures.numbers a.shape.rows is.numbers (is.trees.inside r (λ z. omega (arith, z, root, c.ranges.root.fits))) (omega (arith, c.from.ensures, less, c.ranges.root.fits));
      trees = hooked_trees p q r o set less (omega (arith, c.ranges.root.fits)) root c.in_ok-other.ensures.root a is.trees
          (joined_to a is.both o c.args.vertex r (c.in_ok-other.ensures.joined a before) reached.joined);
    }

pub returns-then-other-root-clause-keeps : goal.returns-then-other-root-clause-keeps
returns-then-other-root-clause-keeps c =
    let p = number_at c.planted.new.parents in
    let q = number_at c.set.new.self in
    let r = c.args.root in
    let o = c.in_ok-other.other in
    let root : p r ≡ r = c.in_ok-other.ensures.roots r c.requires.root (omega (arith, c.ranges.root.fits)) in
    let set : (w : ℕ) → q w ≡ cond (w == r) o (p w) = λ w. c.in_ok-set.ensures.values w ∙ ap (λ (x : ℕ). cond (w == r) x (p w)) c.from.ensures in
    keeps_trans (number_at c.args.parents.now) p q c.in_ok-other.ensures.keeps (hooked_keeps p q r o set c.if-other-root.true (omega (arith, c.ranges.root.fits)) root c.in_ok-other.ensures.root)

pub returns-then-other-root-clause-root : goal.returns-then-other-root-clause-root
returns-then-other-root-clause-root c =
    let p = number_at c.planted.new.parents in
    let q = number_at c.set.new.self in
    let r = c.args.root in
    let o = c.in_ok-other.other in
    let root : p r ≡ r = c.in_ok-other.ensures.roots r c.requires.root (omega (arith, c.ranges.root.fits)) in
    let set : (w : ℕ) → q w ≡ cond (w == r) o (p w) = λ w. c.in_ok-set.ensures.values w ∙ ap (λ (x : ℕ). cond (w == r) x (p w)) c.from.ensures in
    hooked_root p q r o set c.if-other-root.true (omega (arith, c.ranges.root.fits)) root c.in_ok-other.ensures.root

pub returns-then-other-root-clause-vertex : goal.returns-then-other-root-clause-vertex
returns-then-other-root-clause-vertex c =
    let p = number_at c.planted.new.parents in
    let q = number_at c.set.new.self in
    let r = c.args.root in
    let o = c.in_ok-other.other in
    let root : p r ≡ r = c.in_ok-other.ensures.roots r c.requires.root (omega (arith, c.ranges.root.fits)) in
    let set : (w : ℕ) → q w ≡ cond (w == r) o (p w) = λ w. c.in_ok-set.ensures.values w ∙ ap (λ (x : ℕ). cond (w == r) x (p w)) c.from.ensures in
    tree_kept p q (hooked_keeps p q r o set c.if-other-root.true (omega (arith, c.ranges.root.fits)) root c.in_ok-other.ensures.root) c.args.vertex o c.in_ok-other.ensures.same

pub returns-then-other-root-clause-other : goal.returns-then-other-root-clause-other
returns-then-other-root-clause-other c =
    let p = number_at c.planted.new.parents in
    let q = number_at c.set.new.self in
    let r = c.args.root in
    let o = c.in_ok-other.other in
    let root : p r ≡ r = c.in_ok-other.ensures.roots r c.requires.root (omega (arith, c.ranges.root.fits)) in
    let set : (w : ℕ) → q w ≡ cond (w == r) o (p w) = λ w. c.in_ok-set.ensures.values w ∙ ap (λ (x : ℕ). cond (w == r) x (p w)) c.from.ensures in
    hooked_same p q r o set c.if-other-root.true (omega (arith, c.ranges.root.fits)) root c.in_ok-other.ensures.root

pub set-requires-then-root-other : goal.set-requires-then-root-other
set-requires-then-root-other c =
    let g = c.requires.trees in
    let is = c.in_ok-other.ensures.trees g.0 g.1 g.2.inside g.2.entered in
    record { vertex = (g.0.shape.rows, is.numbers, is.trees.inside c.in_ok-other.other c.in_ok-other.ensures.same.second) }

pub returns-in_ok-set-2-clause-trees : goal.returns-in_ok-set-2-clause-trees
returns-in_ok-set-2-clause-trees c a before reached =
    let p = number_at c.planted.new.parents in
    let q = number_at c.set-then-root-other.new.self in
    let r = c.args.root in
    let o = c.in_ok-other.other in
    let is = c.in_ok-other.ensures.trees a before reached.inside reached.entered in
    let root : p r ≡ r = c.in_ok-other.ensures.roots r c.requires.root (omega (arith, c.ranges.root.fits)) in
    let set : (w : ℕ) → q w ≡ cond (w == o) r (p w) = λ w. c.in_ok-set-2.ensures.values w ∙ ap (λ (x : ℕ). cond (w == o) x (p w)) c.from-then-root-other.ensures in
    let less : r < o = c.if-root-other.true in
    let finite : o < infinite = omega arith in
    record {
      both = is.both;
      numbers = c.in_ok-set-2.ensures.numbers a.shape.rows is.numbers (is.trees.inside o c.in_ok-other.ensures.same.second) (omega (arith, c.from-then-root-other.ensures, c.ranges.root.fits));
      trees = hooked_trees p q o r set less finite c.in_ok-other.ensures.root root a is.trees
          (joined_to a is.both r c.args.vertex o reached.joined (c.in_ok-other.ensures.joined a before));
    }

pub returns-in_ok-set-2-clause-keeps : goal.returns-in_ok-set-2-clause-keeps
returns-in_ok-set-2-clause-keeps c =
    let p = number_at c.planted.new.parents in
    let q = number_at c.set-then-root-other.new.self in
    let r = c.args.root in
    let o = c.in_ok-other.other in
    let root : p r ≡ r = c.in_ok-other.ensures.roots r c.requires.root (omega (arith, c.ranges.root.fits)) in
    let set : (w : ℕ) → q w ≡ cond (w == o) r (p w) = λ w. c.in_ok-set-2.ensures.values w ∙ ap (λ (x : ℕ). cond (w == o) x (p w)) c.from-then-root-other.ensures in
    keeps_trans (number_at c.args.parents.now) p q c.in_ok-other.ensures.keeps (hooked_keeps p q o r set c.if-root-other.true (omega arith) c.in_ok-other.ensures.root root)

pub returns-in_ok-set-2-clause-vertex : goal.returns-in_ok-set-2-clause-vertex
returns-in_ok-set-2-clause-vertex c =
    let p = number_at c.planted.new.parents in
    let q = number_at c.set-then-root-other.new.self in
    let v = c.args.vertex in
    let r = c.args.root in
    let o = c.in_ok-other.other in
    let root : p r ≡ r = c.in_ok-other.ensures.roots r c.requires.root (omega (arith, c.ranges.root.fits)) in
    let finite : o < infinite = omega arith in
    let set : (w : ℕ) → q w ≡ cond (w == o) r (p w) = λ w. c.in_ok-set-2.ensures.values w ∙ ap (λ (x : ℕ). cond (w == o) x (p w)) c.from-then-root-other.ensures in
    tree_trans q v o r
    (tree_kept p q (hooked_keeps p q o r set c.if-root-other.true finite c.in_ok-other.ensures.root root) v o c.in_ok-other.ensures.same)
    (hooked_same p q o r set c.if-root-other.true finite c.in_ok-other.ensures.root root)
