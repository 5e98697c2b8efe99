-- SpreadProducts: the slots of a matrix over a grid and a vector, before its plan and after it.
pub mod SpreadProducts
-- VectorPieces: the pieces of a vector: `glued_pieces_cut`, that they glue to it; a grid that has ranks has a side:
--   `some_side`.
pub mod VectorPieces
-- For this crate alone. PlacedEntries: entries of tiles with their places in the whole.
pub mod PlacedEntries
