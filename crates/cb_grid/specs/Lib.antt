-- Parts: how a dimension is cut, and the ranks of a grid. Blocks: cut and glue over a grid.
-- Pieces: cut for vectors spread over all ranks. Tiles: what the steps of scatter keep.
pub mod Parts
pub mod Blocks
pub mod Pieces
pub mod Tiles
