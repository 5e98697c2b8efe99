use Rattle.std.proofs.Common.{◌≡◌, ◌<◌, ◌∙◌, ℕ, List, length, get_or, subst, sym, ap, arith}
use Rattle.std.specs.Prelude.{All}
use Rattle.std.proofs.lemmas.List.Elements.{All-get_or, All-weaker}
use Rattle.cb_dcsc.specs.Columns.{in_column, rows_of}
use Rattle.cb_searches.specs.Numbers.{number_at}
use Rattle.cb_graphs.specs.Forests.{AreInOneTree, AreJoinedInColumn}
use Rattle.cb_graphs.proofs.Joined.{reached_rows, column_entered}
use Rattle.cb_graphs.proofs.Trees.{keeps_trans, tree_back, tree_trans, tree_kept}
use Rattle.cb_graphs.proofs.connected.join_column.Goals as goal

pub planted-requires : goal.planted-requires
planted-requires c =
    let a = c.args.graph.now in
    let cols = c.column_numbers-columns in
    let cs = cols.result.now in
    let n = c.args.n in
    let l : n < length cs = omega (arith, c.requires.place, ap length cols.ensures.numbers) in
    let inside : get_or cs n 0 < a.shape.rows = omega (arith, All-get_or (λ v. v < a.shape.cols) cs n 0 l cols.ensures.inside, c.requires.square) in
    record { trees = (a, c.requires.trees, inside, column_entered a c.shape-shape.ensures.matrix c.requires.square cs cols.ensures.numbers n l) }

pub join_all-requires-clause-trees : goal.join_all-requires-clause-trees
join_all-requires-clause-trees c =
    let a = c.args.graph.now in
    let cols = c.column_numbers-columns in
    let cs = cols.result.now in
    let n = c.args.n in
    let l : n < length cs = omega (arith, c.requires.place, ap length cols.ensures.numbers) in
    let v = get_or cs n 0 in
    let inside : v < a.shape.rows = omega (arith, All-get_or (λ v. v < a.shape.cols) cs n 0 l cols.ensures.inside, c.requires.square) in
    let entered = column_entered a c.shape-shape.ensures.matrix c.requires.square cs cols.ensures.numbers n l in
    let rows : c.nth_column.result.0.now ≡ rows_of (in_column v a.entries) = c.nth_column.ensures.rows ∙ ap (λ (xs : List ℕ). rows_of (in_column (get_or xs n 0) a.entries)) (sym cols.ensures.numbers) in (
      a,
      c.in_ok-root.ensures.trees a c.requires.trees inside entered,
      reached_rows a c.shape-shape.ensures.matrix c.requires.square c.in_ok-root.root v c.nth_column.result.0.now rows (c.in_ok-root.ensures.joined a c.requires.trees),
    )

pub returns-clause-trees : goal.returns-clause-trees
returns-clause-trees c =
    let a = c.args.graph.now in
    let cols = c.column_numbers-columns in
    let cs = cols.result.now in
    let n = c.args.n in
    let l : n < length cs = omega (arith, c.requires.place, ap length cols.ensures.numbers) in
    let v = get_or cs n 0 in
    let inside : v < a.shape.rows = omega (arith, All-get_or (λ v. v < a.shape.cols) cs n 0 l cols.ensures.inside, c.requires.square) in
    let entered = column_entered a c.shape-shape.ensures.matrix c.requires.square cs cols.ensures.numbers n l in
    let rows : c.nth_column.result.0.now ≡ rows_of (in_column v a.entries) = c.nth_column.ensures.rows ∙ ap (λ (xs : List ℕ). rows_of (in_column (get_or xs n 0) a.entries)) (sym cols.ensures.numbers) in
    c.in_ok-join_all.ensures.trees a (c.in_ok-root.ensures.trees a c.requires.trees inside entered)
    (reached_rows a c.shape-shape.ensures.matrix c.requires.square c.in_ok-root.root v c.nth_column.result.0.now rows (c.in_ok-root.ensures.joined a c.requires.trees))

pub returns-clause-joined : goal.returns-clause-joined
returns-clause-joined c =
    let a = c.args.graph.now in
    let cols = c.column_numbers-columns in
    let cs = cols.result.now in
    let n = c.args.n in
    let v = get_or cs n 0 in
    let root = c.in_ok-root.root in
    let p = number_at c.planted.new.parents in
    let q = number_at c.join_all.new.parents in
    let rows : c.nth_column.result.0.now ≡ rows_of (in_column v a.entries) = c.nth_column.ensures.rows ∙ ap (λ (xs : List ℕ). rows_of (in_column (get_or xs n 0) a.entries)) (sym cols.ensures.numbers) in
    let here : AreInOneTree q root v = tree_back q v root (tree_kept p q c.in_ok-join_all.ensures.keeps v root c.in_ok-root.ensures.same) in
    let all : All (λ u. AreInOneTree q u v) c.nth_column.result.0.now =
    All-weaker (λ u. AreInOneTree q u root) (λ u. AreInOneTree q u v) (λ u h. tree_trans q u root v h here) c.nth_column.result.0.now c.in_ok-join_all.ensures.joined in
    subst (λ (xs : List ℕ). AreJoinedInColumn a q (get_or xs n 0)) cols.ensures.numbers (subst (All (λ u. AreInOneTree q u v)) rows all)

pub returns-clause-keeps : goal.returns-clause-keeps
returns-clause-keeps c = keeps_trans (number_at c.args.parents.now) (number_at c.planted.new.parents) (number_at c.join_all.new.parents) c.in_ok-root.ensures.keeps c.in_ok-join_all.ensures.keeps
