use Rattle.std.proofs.Common.{◌<◌, length, get_or, take, subst, arith}
use Rattle.std.specs.Prelude.{All}
use Rattle.std.proofs.lemmas.List.{take_all, take_more}
use Rattle.std.proofs.lemmas.List.Elements.{All-nil, All-get_or, All-push, All-weaker}
use Rattle.cb_matrix.specs.Sparse.{Sparse}
use Rattle.cb_searches.specs.Numbers.{number_at}
use Rattle.cb_graphs.specs.Forests.{AreInOneTree, IsReached}
use Rattle.cb_graphs.proofs.Trees.{joined_self, joined_trans, joined_to, keeps_self, keeps_trans, tree_self, tree_back, tree_trans, tree_kept}
use Rattle.cb_graphs.proofs.connected.join_all.Goals as goal

pub loop-vertex-init : goal.loop-vertex-init
loop-vertex-init c =
    let p = number_at c.args.parents.now in
    record {
      trees = λ a is _. is;
      keeps = keeps_self p;
      root = c.requires.root;
      same = tree_self p c.args.root (λ z. omega (arith, z, c.requires.root, c.ranges.root.fits));
      above = λ a is _. joined_self a c.args.root;
      passed = All-nil (λ v. AreInOneTree p v c.args.root);
    }

pub join-requires-clause-trees : goal.join-requires-clause-trees
join-requires-clause-trees c =
    let g = c.requires.trees in
    let vs = c.args.vertices.now in
    let i = c.loop-vertex.vertex-index in
    let before = c.loop-vertex.invariant in
    let reached : IsReached g.0 c.args.root (get_or vs i 0) = All-get_or (IsReached g.0 c.args.root) vs i 0 (omega arith) g.2 in (
      g.0,
      before.trees g.0 g.1 g.2,
      record {
        inside = reached.inside;
        entered = reached.entered;
        joined = joined_trans g.0 c.loop-vertex.least c.args.root (get_or vs i 0) (before.above g.0 g.1 g.2) reached.joined;
      },
    )

pub loop-vertex-preserved : goal.loop-vertex-preserved
loop-vertex-preserved c =
    let vs = c.args.vertices.now in
    let i = c.loop-vertex.vertex-index in
    let v = get_or vs i 0 in
    let inside : i < length vs = omega arith in
    let before = c.loop-vertex.invariant in
    let done = c.in_ok-least.ensures in
    let p = number_at c.loop-vertex.parents in
    let q = number_at c.join.new.parents in
    let root = c.args.root in
    let old = c.loop-vertex.least in
    let new = c.in_ok-least.least in
    let same : AreInOneTree q root new = tree_trans q root old new (tree_kept p q done.keeps root old before.same) done.other in
    let reached : (a : Sparse) → All (IsReached a root) vs → IsReached a root v = λ a all. All-get_or (IsReached a root) vs i 0 inside all in
    record {
      trees = λ a is all. done.trees a (before.trees a is all) (record { inside = (reached a all).inside; entered = (reached a all).entered; joined = joined_trans a old root v (before.above a is all) (reached a all).joined });
      keeps = keeps_trans (number_at c.args.parents.now) p q before.keeps done.keeps;
      root = done.root;
      same = same;
      above = λ a is all.
          let trees = before.trees a is all in
          let there = done.joined a trees (record { inside = (reached a all).inside; entered = (reached a all).entered; joined = joined_trans a old root v (before.above a is all) (reached a all).joined }) in
          joined_to a trees.both new v root there (reached a all).joined;
      passed = rw (take_more vs i 0 inside)
          (All-push (λ v. AreInOneTree q v root) (take i vs) v
          (All-weaker (λ v. AreInOneTree p v root) (λ v. AreInOneTree q v root) (λ v h. tree_kept p q done.keeps v root h) (take i vs) before.passed)
          (tree_trans q v new root done.vertex (tree_back q root new same)));
    }

pub returns-clause-joined : goal.returns-clause-joined
returns-clause-joined c =
    let vs = c.args.vertices.now in
    subst (All (λ v. AreInOneTree (number_at c.loop-vertex.parents) v c.args.root)) (take_all c.loop-vertex.vertex-index vs (omega arith)) c.loop-vertex.invariant.passed
