use Rattle.std.proofs.Common.{◌≢◌, ℕ, subst}
use Rattle.cb_searches.specs.Numbers.{number_at}
use Rattle.cb_searches.specs.Walks.{infinite}
use Rattle.cb_graphs.specs.Components.{AreJoined}
use Rattle.cb_graphs.proofs.Trees.{joined_self, joined_trans, short_self, short_trans, tree_self, tree_trans, tree_kept, tree_parent}
use Rattle.cb_graphs.proofs.connected.root_of.Goals as goal

pub loop-parents-init : goal.loop-parents-init
loop-parents-init c = record {
  trees = λ a is. is;
  shorter = short_self (number_at c.args.parents.now);
  same = tree_self (number_at c.args.parents.now) c.args.vertex c.requires.vertex;
  joined = λ a is. joined_self a c.args.vertex;
}

pub loop-parents-preserved : goal.loop-parents-preserved
loop-parents-preserved c =
    let done = c.in_ok-root.ensures in
    let before = c.loop-parents.invariant in
    let p = number_at c.loop-parents.parents in
    let q = number_at c.shorten.new.parents in
    let v = c.args.vertex in
    let r = c.loop-parents.root in
    let u = c.in_ok-root.root in
    let g = c.requires.trees in
    let some : q r ≢ infinite = done.shorter.trees.kept r before.same.second in
    let now = done.trees g.0 (before.trees g.0 g.1) in
    let above : q u ≢ infinite = subst (λ (x : ℕ). q x ≢ infinite) done.parent (now.trees.closed r some) in
    record {
      trees = λ a is. done.trees a (before.trees a is);
      shorter = short_trans (number_at c.args.parents.now) p q before.shorter done.shorter;
      same = tree_trans q v r u (tree_kept p q done.shorter.trees v r before.same) (tree_parent q r u done.parent some above);
      joined = λ a is. joined_trans a u r v (subst (λ (x : ℕ). AreJoined a x r) done.parent ((done.trees a (before.trees a is)).trees.joined r some)) (before.joined a is);
    }
