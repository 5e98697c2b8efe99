-- What is nearest from initial values: how the search begins and ends, and that levels are distances if each entry weighs 1.
use Rattle.std.proofs.Common.{◌≡◌, ◌≢◌, ℕ, ◌+◌, ◌<◌, ◌≤◌, ⊎_elim, List, [], ◌∷◌, map, subst, sym, refl, ◌∙◌, arith}
use Rattle.std.proofs.lemmas.Bool.{cases_lt}
use Rattle.cb_semirings.specs.Tables.{min_plus, or_and}
use Rattle.cb_matrix.specs.Sparse.{Sparse, IsMatrix}
use Rattle.cb_matrix.proofs.Made.{at-outside}
use Rattle.cb_searches.specs.Walks.{IsWalk, steps, cost, infinite, column_shape}
use Rattle.cb_searches.specs.declared.numbers.Numbers.{Numbers}
use Rattle.cb_searches.specs.Numbers.{number_at, number_in, AreNumbers}
use Rattle.cb_searches.specs.Searches.{HasEdges}
use Rattle.cb_searches.specs.Settling.{AreEdges, IsSettling, KeepSettling, tentative}
use Rattle.cb_searches.specs.GivenNumbers.{IsWalkGiven, AreDistancesGiven, AreLevelsGiven}
use Rattle.cb_searches.proofs.WalkCosts.{walk_here}
use Rattle.cb_searches.proofs.NumbersByRound.{closed}
use Rattle.cb_searches.proofs.LowerEntries.{number_fits}
use Rattle.cb_searches.proofs.SettledVertices.{edges_turned, waits_or_relaxed, all_relaxed}
use Rattle.cb_searches.proofs.UnitWeights.{to_unit, from_unit, unit_cost}

module _ (a given : Sparse) (d : ℕ → ℕ) (fits : (v : ℕ) → d v ≤ infinite) where
  -- at first each vertex has its initial value, and waits with it
  pub given_begun : ((v : ℕ) → d v ≡ number_in given v) → IsSettling a (number_in given) d (map tentative given.entries)
  given_begun same = record {
    fits = fits;
    begins = λ v. omega (arith, same v);
    reached = λ v _. let none : cost a (v ∷ []) ≡ 0 = refl in (v, v ∷ [], walk_here min_plus a v, omega (arith, none, same v));
    settled = λ u. waits_or_relaxed a d given.entries u fits (sym (same u));
  }

  -- in the end the numbers are distances
  pub given_ended : (column : Sparse) → column.shape ≡ column_shape a → ((v : ℕ) → number_in column v ≡ d v) → IsSettling a (number_in given) d [] → AreDistancesGiven a given column
  given_ended column shape values is =
      let low : (from v : ℕ) (walk : List ℕ) → IsWalk min_plus a from v walk → d v ≤ number_in given from + cost a walk =
      λ from v walk w. let c = closed a from d (all_relaxed a (number_in given) d is) from v walk w in let b = is.begins from in omega (arith, c, b) in
      record {
        shape = shape;
        distances = λ v _ some.
            let w : (u : ℕ) × (walk : List ℕ) × IsWalk min_plus a u v walk × (number_in given u + cost a walk ≡ d v) = is.reached v (λ e. some (values v ∙ e)) in
            let fit = fits v in
            record {
              reached = (
                w.0,
                w.1,
                record { number = λ e. some (omega (arith, values v, e, w.3, fit)); is = w.2 },
                omega (arith, w.3, values v, fit),
              );
              least = λ from walk g. let l = low from v walk g.is in omega (arith, values v, fit, l);
            };
        none = λ v _ e from walk g. let l = low from v walk g.is in omega (arith, values v, e, l);
      }

-- a search finds the distances, if its numbers begin with the first ones, all of them wait, and in the end none waits
pub given_found : (edges a given : Sparse) (n m : ℕ) (old new : Numbers) → HasEdges edges a → AreNumbers n old → ((v : ℕ) → number_at old v ≡ number_in given v)
    → AreNumbers m new → KeepSettling edges old (map tentative given.entries) new [] → (column : Sparse) → column.shape ≡ column_shape a → ((v : ℕ) → number_in column v ≡ number_at new v) → AreDistancesGiven a given column
given_found edges a given n m old new has first begins last keep column shape values =
    let turned : AreEdges edges a = subst (λ (x : Sparse). AreEdges x a) (sym has.turned) (edges_turned a has.matrix) in
    given_ended a given (number_at new) (number_fits m new last) column shape values (keep a (number_in given) turned (given_begun a given (number_at old) (number_fits n old first) begins))

-- in the graph of a matrix of bits
module _ (a : Sparse) (is : IsMatrix or_and a) (square : a.shape.rows ≡ a.shape.cols) (fits : a.shape.rows < infinite) (given : Sparse) (column_is : IsMatrix min_plus given) (rows : given.shape.rows ≡ a.shape.rows) where
  -- a vertex that has an initial value is one of the graph's
  given_inside : (from : ℕ) → number_in given from ≢ infinite → from < a.shape.rows
  given_inside from some =
      ⊎_elim (λ (l : from < given.shape.rows). omega (arith, l, rows))
      (λ (l : given.shape.rows ≤ from). absurd (some (at-outside infinite given.shape given.entries from 0 column_is.inside (λ k _. omega (arith, k, l)))))
      (cases_lt from given.shape.rows)

  given_weights : (from v : ℕ) (walk : List ℕ) → IsWalkGiven or_and a given from v walk → IsWalkGiven min_plus a given from v walk
  given_weights from v walk g = record { number = g.number; is = to_unit a is square fits from (given_inside from g.number) v walk g.is }

  given_cost : (from v : ℕ) (walk : List ℕ) → IsWalkGiven or_and a given from v walk → cost a walk ≡ steps walk
  given_cost from v walk g = unit_cost a is square fits from (given_inside from g.number) v walk g.is

  -- its distances are its levels
  pub levels_given : (column : Sparse) → AreDistancesGiven a given column → AreLevelsGiven a given column
  levels_given column h = record {
    shape = h.shape;
    levels = λ v l some.
        let least = h.distances v l some in
        let w = least.reached in
        let g : IsWalkGiven or_and a given w.0 v w.1 = record { number = w.2.number; is = from_unit a is square fits w.0 (given_inside w.0 w.2.number) v w.1 w.2.is } in
        record {
          reached = (w.0, w.1, g, omega (arith, given_cost w.0 v w.1 g, w.3));
          least = λ from walk g. omega (arith, given_cost from v walk g, least.least from walk (given_weights from v walk g));
        };
    none = λ v l e from walk g. omega (arith, given_cost from v walk g, h.none v l e from walk (given_weights from v walk g));
  }
