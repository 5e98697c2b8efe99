-- Tables of the places of listed rows.
use Rattle.std.specs.Prelude.{ℕ, ◌<◌, IsTrue, List, AllPairs}
use Rattle.cb_selections.specs.declared.extracts.RowTable.{RowTable}
use Rattle.cb_selections.specs.ListedRows.{ArePlaces}

-- The table has a place for each listed row, and if it says so, these ascend.
pub record IsRowTable (bound : ℕ) (listed : List ℕ) (table : RowTable) : Type 0 where
  pub places : ArePlaces bound listed table.places.items
  pub order : IsTrue table.ascending → AllPairs (λ i j. i < j) listed
