-- A search over rounds: its start, a round, its end.
use Rattle.std.proofs.Common.{◌≡◌, ◌≢◌, ℕ, ◌+◌, ◌<◌, ◌≤◌, ⊎_elim, List, [], subst, sym, ap, ◌∙◌, arith}
use Rattle.std.specs.Prelude.{min, Result, Ok, Err, IfOk}
use Rattle.cb_semirings.specs.Tables.{min_plus}
use Rattle.cb_matrix.specs.declared.Entry.{Entry}
use Rattle.cb_matrix.specs.Sparse.{Sparse, Extent, IsMatrix, at, value_at}
use Rattle.cb_matrix.specs.Values.{product}
use Rattle.cb_searches.specs.Walks.{infinite, IsWalk, cost}
use Rattle.cb_searches.specs.Walks.{AreDistances, column_shape}
use Rattle.cb_matrix.specs.Operations.{transposed}
use Rattle.cb_searches.specs.Numbers.{number_at, AreNumbers}
use Rattle.cb_searches.specs.declared.searches.Search.{Search}
use Rattle.cb_searches.specs.Searches.{HasEnded, IsSearch}
use Rattle.cb_searches.proofs.NumbersByRound.{IsRound, IsNearest, started, neared, settled, all_rounds}
use Rattle.cb_searches.proofs.TurnedProducts.{is_round, inside_square}

-- at first the source has the number 0, and no other vertex has one
pub search_begun : (a : Sparse) (source : ℕ) (search : Search) → IsMatrix min_plus a → a.shape.rows ≡ a.shape.cols → source < a.shape.rows → number_at search.known source ≡ 0 → ((v : ℕ) → v ≢ source → number_at search.known v ≡ infinite) →
    AreNumbers a.shape.rows search.known → search.fell.shape ≡ column_shape a → ((v : ℕ) → at min_plus search.fell v 0 ≡ number_at search.known v) → IsSearch a source 0 search
search_begun a source search is square vertex here there numbers shape all = record {
  matrix = is;
  square = square;
  vertex = vertex;
  numbers = numbers;
  shape = shape;
  nearing = started a source (number_at search.known) (λ u. at min_plus search.fell u 0) here there all;
}

module _ (a : Sparse) (source k : ℕ) (search : Search) (is : IsSearch a source k search) where
  -- what a round reaches is a column of the vertices
  pub reached_shape : (reached : Sparse) → reached ≡ product min_plus (transposed min_plus a) search.fell → reached.shape ≡ column_shape a
  reached_shape reached r =
      let square = sym is.square in
      ap (λ (m : Sparse). m.shape) r ∙ (λ t. record { rows = square t; cols = (is.shape t).cols })

  -- a round takes over what is lower
  pub search_advanced : (reached : Sparse) (next : Search) → IsMatrix min_plus search.fell → reached ≡ product min_plus (transposed min_plus a) search.fell → AreNumbers reached.shape.rows next.known →
      ((v : ℕ) → number_at next.known v ≡ min (number_at search.known v) (at min_plus reached v 0)) → next.fell.shape ≡ reached.shape →
      ((v : ℕ) → at min_plus reached v 0 < number_at search.known v → at min_plus next.fell v 0 ≡ at min_plus reached v 0) → ((v : ℕ) → number_at search.known v ≤ at min_plus reached v 0 → at min_plus next.fell v 0 ≡ infinite) → IsSearch a source (k + 1) next
  search_advanced reached next is_fell r numbers least shape new old = record {
    matrix = is.matrix;
    square = is.square;
    vertex = is.vertex;
    numbers = subst (λ (e : Extent). AreNumbers e.rows next.known) (reached_shape reached r) numbers;
    shape = shape ∙ reached_shape reached r;
    nearing = neared a source k (number_at search.known) (λ u. at min_plus search.fell u 0) (λ v. at min_plus reached v 0) (number_at next.known) (λ u. at min_plus next.fell u 0) is.nearing
        (subst (λ (m : Sparse). IsRound a (λ u. at min_plus search.fell u 0) (λ v. at min_plus m v 0)) (sym r) (is_round a search.fell is.matrix is_fell is.square (ap (λ e. e.rows) is.shape) (ap (λ e. e.cols) is.shape)))
        least new old;
  }

  -- once it has ended, each number is the least cost of a walk
  pub search_nearest : HasEnded a k search → IsNearest a source (number_at search.known)
  unfolding value_at
  search_nearest ended = ⊎_elim
      (λ (none : search.fell.entries ≡ []). settled a source k (number_at search.known) (λ u. at min_plus search.fell u 0) is.nearing (λ v. ap (λ (es : List Entry). value_at infinite es v 0) none))
      (λ (m : a.shape.rows ≤ k). all_rounds a source k a.shape.rows (number_at search.known) (λ u. at min_plus search.fell u 0) is.nearing m is.vertex (inside_square a is.matrix is.square))
      ended

  -- then the column of its numbers has the distances
  pub search_ended : (column : Sparse) → column.shape ≡ search.fell.shape → ((v : ℕ) → at min_plus column v 0 ≡ number_at search.known v) → HasEnded a k search → AreDistances a source column
  search_ended column shape values ended =
      let h = search_nearest ended in
      record {
        shape = shape ∙ is.shape;
        distances = λ v _ n.
            let w : (walk : List ℕ) × IsWalk min_plus a source v walk × (cost a walk ≡ number_at search.known v) = h.reached v (λ e. n (values v ∙ e)) in
            record {
              reached = (w.0, w.1, omega (arith, w.2, values v, h.fits v));
              least = λ walk is. omega (arith, values v, h.fits v, h.least v walk is);
            };
        none = λ v _ e walk is. omega (arith, values v, e, h.least v walk is);
      }

-- two facts of one value
pub both : {X E : Type 0} (r : Result X E) (P Q : X → Type 0) → IfOk r P → IfOk r Q → IfOk r (λ x. P x × Q x)
both (Ok x) P Q p q = (p, q)
both (Err e) P Q p q = p
