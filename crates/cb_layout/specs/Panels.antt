-- A matrix in panels side by side: blocks of the whole shape, of which each has the entries of some columns.
use Rattle.std.specs.Prelude.{◌≡◌, ◌<◌, List, length, flat_map, All}
use Rattle.cb_semirings.specs.Arithmetic.{Arithmetic}
use Rattle.cb_matrix.specs.declared.Entry.{Entry}
use Rattle.cb_matrix.specs.Sparse.{Extent, Sparse, IsMatrix}
use Rattle.cb_layout.specs.declared.whole.Whole.{Whole}
use Rattle.cb_layout.specs.declared.whole.Whole.TheVariants.{Lent, Made}

-- the entries of all panels, those of one after those of the other
abbrev pub entries_of_panels : List Sparse → List Entry
entries_of_panels panels = flat_map (λ panel. panel.entries) panels

-- the matrix of a shape that has the entries of all panels
abbrev pub side_by_side : Extent → List Sparse → Sparse
side_by_side shape panels = record { shape = shape; entries = entries_of_panels panels }

-- some panels of a shape, at least one, are a matrix
pub record ArePanels (s : Arithmetic) (shape : Extent) (panels : List Sparse) : Type 0 where
  pub some : 0 < length panels
  pub shapes : All (λ panel. panel.shape ≡ shape) panels
  pub matrix : IsMatrix s (side_by_side shape panels)

-- what is lent or was made
abbrev pub whole_of : {M : Type 0} → Whole M → M
whole_of (Lent m) = m.now
whole_of (Made m) = m
