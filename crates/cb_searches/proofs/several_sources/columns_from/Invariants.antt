use Rattle.std.specs.Prelude.{slice_index}
use Rattle.cb_matrix.specs.Sparse.{Sparse}
use Rattle.cb_searches.specs.Walks.{AreDistances}
use Rattle.cb_searches.specs.Searches.{HasEdges}
use Rattle.cb_searches.proofs.ColumnsBesides.{HasColumns}
use Rattle.cb_searches.proofs.several_sources.columns_from.Given as goal

abbrev pub invariant-loop-n : goal.invariant-loop-n
invariant-loop-n l = (a : Sparse) → HasEdges l.edges a → HasColumns l.shape (λ j m. AreDistances a (slice_index l.sources j) m) l.n l.entries.items
