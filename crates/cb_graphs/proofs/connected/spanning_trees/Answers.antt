use Rattle.std.proofs.Common.{◌≡◌, ◌<◌, ◌≤◌, ◌∙◌, ℕ, List, ⊎_elim, length, subst, sym, ap, arith}
use Rattle.std.specs.Prelude.{All, Contains}
use Rattle.std.proofs.lemmas.Bool.{cases_lt}
use Rattle.std.proofs.lemmas.List.Elements.{All-weaker}
use Rattle.cb_matrix.specs.Sparse.{Extent}
use Rattle.cb_dcsc.specs.Columns.{in_column, rows_of, columns_with_entries}
use Rattle.cb_searches.specs.Numbers.{number_at, AreNumbers}
use Rattle.cb_graphs.specs.Forests.{AreInOneTree, AreJoinedInColumn}
use Rattle.cb_graphs.specs.Neighbours.{vertex_at}
use Rattle.cb_graphs.proofs.Joined.{each_edge}
use Rattle.cb_graphs.proofs.Undirected.{undirected_both}
use Rattle.cb_graphs.proofs.Trees.{tree_kept}
use Rattle.cb_graphs.proofs.connected.spanning_trees.Goals as goal

pub loop-n-init : goal.loop-n-init
loop-n-init c =
    let a = c.args.graph.now in
    let made = c.in_ok-parents in
    let rows : c.rows.result ≡ a.shape.rows = c.rows.ensures.value ∙ ap (λ (e : Extent). e.rows) c.shape-shape.ensures.shape in
    record {
      trees = record {
        both = undirected_both a c.shape-shape.ensures.matrix c.requires.square;
        numbers = subst (λ (n : ℕ). AreNumbers n made.parents) rows made.ensures.numbers;
        trees = record {
          inside = λ v some. absurd (some (made.ensures.infinite v));
          entered = λ v some. absurd (some (made.ensures.infinite v));
          low = λ v some. absurd (some (made.ensures.infinite v));
          joined = λ v some. absurd (some (made.ensures.infinite v));
          closed = λ v some. absurd (some (made.ensures.infinite v));
        };
      };
      joined = λ k l. absurd (omega arith);
    }

pub loop-n-preserved : goal.loop-n-preserved
loop-n-preserved c =
    let a = c.args.graph.now in
    let n = c.loop-n.n in
    let done = c.in_ok-join_column.ensures in
    let p = number_at c.loop-n.parents in
    let q = number_at c.join_column.new.parents in
    record {
      trees = done.trees;
      joined = λ k l. ⊎_elim
          (λ (below : k < n).
          let v = vertex_at a k in
          All-weaker (λ u. AreInOneTree p u v) (λ u. AreInOneTree q u v) (λ u h. tree_kept p q done.keeps u v h) (rows_of (in_column v a.entries)) (c.loop-n.invariant.joined k below))
          (λ (last : n ≤ k). let same : k ≡ n = omega (arith, l, last) in subst (λ (i : ℕ). AreJoinedInColumn a q (vertex_at a i)) (sym same) done.joined)
          (cases_lt k n);
    }

pub returns-clause-spanning : goal.returns-clause-spanning
returns-clause-spanning c =
    let a = c.args.graph.now in
    let cols = c.column_numbers-columns in
    each_edge a c.shape-shape.ensures.matrix (columns_with_entries a.entries) (subst (λ (cs : List ℕ). All (λ e. Contains cs e.column) a.entries) cols.ensures.numbers cols.ensures.all) (AreInOneTree (number_at c.loop-n.parents))
    (λ k l. c.loop-n.invariant.joined k (omega (arith, l, ap length cols.ensures.numbers)))
