-- Numbers that are the levels of their vertices: after all rounds, and as a column.
use Rattle.std.proofs.Common.{◌≡◌, ℕ, ◌<◌, ◌≤◌, List, subst, sym, ◌∙◌, arith}
use Rattle.cb_semirings.specs.Tables.{min_plus, or_and}
use Rattle.cb_matrix.specs.Sparse.{Sparse, IsMatrix, at}
use Rattle.cb_searches.specs.Walks.{IsWalk, IsLeast, AreLevels, steps, cost, infinite, column_shape}
use Rattle.cb_searches.specs.BreadthFirst.{AreLevelsWithin, AreLevelNumbers}
use Rattle.cb_searches.proofs.ShortWalks.{short_walk}
use Rattle.cb_searches.proofs.TurnedProducts.{inside_square}
use Rattle.cb_searches.proofs.UnitWeights.{weights_there, to_unit, from_unit}

-- after as many rounds as there are vertices the numbers are levels, since a walk need visit no vertex twice
pub rounds_are_levels : (a : Sparse) → IsMatrix or_and a → a.shape.rows ≡ a.shape.cols → a.shape.rows < infinite → (source : ℕ) → source < a.shape.rows → (d : ℕ → ℕ) (k : ℕ) → a.shape.rows ≤ k → AreLevelsWithin a source k d → AreLevelNumbers a source d
rounds_are_levels a is square fits source inside d k all rounds = record {
  fits = rounds.fits;
  levels = λ v some. (rounds.levels v some).1;
  none = λ v e w walk.
      let short : (us : List ℕ) × IsWalk min_plus a source v us × (steps us < a.shape.rows) × (cost a us ≤ cost a w) = short_walk a a.shape.rows (inside_square a (weights_there a is) square) source v w inside (to_unit a is square fits source inside v w walk) in
      rounds.within v short.0 (from_unit a is square fits source inside v short.0 short.1) (omega (arith, short.2, all)) e;
}

-- a column of them has the levels
pub levels_in_column : (a : Sparse) (source : ℕ) (d : ℕ → ℕ) → AreLevelNumbers a source d → (column : Sparse) → column.shape ≡ column_shape a → ((v : ℕ) → at min_plus column v 0 ≡ d v) → AreLevels a source column
levels_in_column a source d are column shape values = record {
  shape = shape;
  levels = λ v _ some. subst (IsLeast or_and a source v steps) (sym (values v)) (are.levels v (λ e. some (values v ∙ e)));
  none = λ v _ e. are.none v (sym (values v) ∙ e);
}
