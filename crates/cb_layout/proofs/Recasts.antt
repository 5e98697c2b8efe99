-- Blocks over a grid, and panels, taken over to another semiring, whose values their values are too.
use Rattle.std.proofs.Common.{◌≡◌, ◌≢◌, ℕ, List, [], ◌∷◌, subst}
use Rattle.std.specs.Prelude.{All}
use Rattle.std.proofs.lemmas.List.Elements.{All-nil, All-cons, All-weaker}
use Rattle.std.proofs.lemmas.List.{get_or_default}
use Rattle.cb_semirings.specs.Arithmetic.{Arithmetic, IsSemiring, IsValue}
use Rattle.cb_matrix.specs.declared.Entry.{Entry}
use Rattle.cb_matrix.specs.Sparse.{Extent, Sparse, IsMatrix}
use Rattle.cb_matrix.specs.Values.{empty_matrix}
use Rattle.cb_matrix.proofs.Pairs.{All-front}
use Rattle.cb_dcsc.proofs.Pushed.{All-back}
use Rattle.cb_layout.specs.Distributed.{AreBlocks}
use Rattle.cb_layout.specs.Panels.{ArePanels, entries_of_panels, side_by_side}
use Rattle.cb_grid.specs.Blocks.{glued_blocks}
use Rattle.cb_layout.proofs.BlockColumns.{whole_is_matrix, are_scattered}
use Rattle.cb_layout.proofs.GrownBlocks.{blocks_of}

-- Its value is one of the semiring, and other than zero.
abbrev pub IsStored : Arithmetic → Entry → Type 0
IsStored t e = IsValue t e.value × (e.value ≢ t.zero)

-- a matrix is one over another semiring, if its values are values there
there : (s t : Arithmetic) (m : Sparse) → IsMatrix s m → All (IsStored t) m.entries → IsMatrix t m
there s t m is values = record {
  ascending = is.ascending;
  inside = is.inside;
  values = All-weaker (IsStored t) (λ e. IsValue t e.value) (λ e h. h.0) m.entries values;
  not_zero = All-weaker (IsStored t) (λ e. e.value ≢ t.zero) (λ e h. h.1) m.entries values;
}

module _ (s t : Arithmetic) (laws : IsSemiring s) (others : IsSemiring t) (q : ℕ) (shape : Extent) (blocks : List Sparse) (are : AreBlocks s q shape blocks)
    (values : All (IsStored t) (glued_blocks s q shape blocks).entries) where
  abbrev whole : Sparse
  whole = glued_blocks s q shape blocks

  whole_there : IsMatrix t whole
  whole_there = there s t whole (whole_is_matrix s laws q shape blocks are) values

  -- they are blocks there too, and glue to the same matrix
  pub blocks_there : AreBlocks t q shape blocks × (glued_blocks t q shape blocks ≡ whole)
  blocks_there = blocks_of t others q are.some are.few whole whole_there blocks (are_scattered s laws q shape blocks are)

  -- the values of each are values there
  pub values_there : All (λ (b : Sparse). All (IsStored t) b.entries) blocks
  values_there r x l =
      let own = blocks_there.0.matrices r l in
      subst (λ (b : Sparse). All (IsStored t) b.entries) (get_or_default blocks r (empty_matrix (record { rows = 0; cols = 0 })) x l)
      (λ k e m. (own.values k e m, own.not_zero k e m))

module _ (t : Arithmetic) where
  -- the values of each panel are values there, if those of all are
  pub panel_values : (panels : List Sparse) → All (IsStored t) (entries_of_panels panels) → All (λ (b : Sparse). All (IsStored t) b.entries) panels
  panel_values [] h = All-nil (λ (b : Sparse). All (IsStored t) b.entries)
  panel_values (p ∷ ps) h =
      All-cons (λ (b : Sparse). All (IsStored t) b.entries) p ps (All-front (IsStored t) p.entries (entries_of_panels ps) h)
      (panel_values ps (All-back (IsStored t) p.entries (entries_of_panels ps) h))

  -- and they are panels there too
  pub panels_there : (s : Arithmetic) (shape : Extent) (panels : List Sparse) → ArePanels s shape panels → All (IsStored t) (entries_of_panels panels) → ArePanels t shape panels
  panels_there s shape panels are values = record { some = are.some; shapes = are.shapes; matrix = there s t (side_by_side shape panels) are.matrix values }
