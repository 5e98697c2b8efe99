use Rattle.cb_searches.specs.Numbers.{number_at}
use Rattle.cb_graphs.proofs.Trees.{short_trans}
use Rattle.cb_graphs.proofs.connected.flatten_at.Goals as goal

pub loop-parents-preserved : goal.loop-parents-preserved
loop-parents-preserved c =
    let done = c.in_ok-parent.ensures in
    record {
      trees = λ a is. done.trees a (c.loop-parents.invariant.trees a is);
      shorter = short_trans (number_at c.args.parents.now) (number_at c.loop-parents.parents) (number_at c.shorten.new.parents) c.loop-parents.invariant.shorter done.shorter;
      parent = done.parent;
    }
