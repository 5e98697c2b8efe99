use Rattle.std.proofs.Common.{◌≢◌, ◌<◌, length, get_or, take, subst, arith}
use Rattle.std.specs.Prelude.{All}
use Rattle.std.proofs.lemmas.List.{take_all, take_more}
use Rattle.std.proofs.lemmas.List.Elements.{All-nil, All-push, All-weaker}
use Rattle.cb_matrix.specs.declared.Entry.{Entry}
use Rattle.cb_searches.specs.Numbers.{number_at}
use Rattle.cb_searches.specs.Walks.{infinite}
use Rattle.cb_graphs.specs.Forests.{IsFlat}
use Rattle.cb_graphs.proofs.Trees.{short_self, short_trans, flat_stays}
use Rattle.cb_graphs.proofs.connected.flatten_all.Goals as goal

pub loop-entry-init : goal.loop-entry-init
loop-entry-init c =
    let p = number_at c.args.parents.now in
    record {
      trees = λ a is. is;
      shorter = short_self p;
      flat = All-nil (λ (e : Entry). (p e.row ≢ infinite) × IsFlat p e.row);
    }

pub flatten_at-requires-clause-trees : goal.flatten_at-requires-clause-trees
flatten_at-requires-clause-trees c =
    let g = c.requires.trees in
    (g.0, c.loop-entry.invariant.trees g.0 g.1)

pub flatten_at-requires-clause-vertex : goal.flatten_at-requires-clause-vertex
flatten_at-requires-clause-vertex c =
    let d : Entry = record { row = 0; column = 0; value = 0 } in
    let es = c.args.entries.now in
    let i = c.loop-entry.entry-index in
    c.loop-entry.invariant.shorter.trees.kept (get_or es i d).row (c.requires.vertices i d (omega arith))

pub loop-entry-preserved : goal.loop-entry-preserved
loop-entry-preserved c =
    let d : Entry = record { row = 0; column = 0; value = 0 } in
    let es = c.args.entries.now in
    let i = c.loop-entry.entry-index in
    let e = get_or es i d in
    let inside : i < length es = omega arith in
    let before = c.loop-entry.invariant in
    let done = c.in_ok-flatten_at.ensures in
    let p = number_at c.loop-entry.parents in
    let q = number_at c.flatten_at.new.parents in
    let some : q e.row ≢ infinite = done.shorter.trees.kept e.row (before.shorter.trees.kept e.row (c.requires.vertices i d inside)) in
    record {
      trees = λ a is. done.trees a (before.trees a is);
      shorter = short_trans (number_at c.args.parents.now) p q before.shorter done.shorter;
      flat = rw (take_more es i d inside)
          (All-push (λ (e : Entry). (q e.row ≢ infinite) × IsFlat q e.row) (take i es) e
          (All-weaker (λ (e : Entry). (p e.row ≢ infinite) × IsFlat p e.row) (λ (e : Entry). (q e.row ≢ infinite) × IsFlat q e.row)
          (λ e h. (done.shorter.trees.kept e.row h.0, flat_stays p q done.shorter e.row h.0 h.1)) (take i es) before.flat)
          (some, done.flat));
    }

pub returns-clause-flat : goal.returns-clause-flat
returns-clause-flat c =
    let es = c.args.entries.now in
    let p = number_at c.loop-entry.parents in
    All-weaker (λ (e : Entry). (p e.row ≢ infinite) × IsFlat p e.row) (λ (e : Entry). IsFlat p e.row) (λ e h. h.1) es
    (subst (All (λ (e : Entry). (p e.row ≢ infinite) × IsFlat p e.row)) (take_all c.loop-entry.entry-index es (omega arith)) c.loop-entry.invariant.flat)
