-- SpreadVectors: a matrix over a grid and a vector that is spread over its ranks.
pub mod SpreadVectors
-- Vectors: cut and glue for vectors spread over all ranks. PieceTiles: what the steps of scatter and gather keep.
pub mod Vectors
pub mod PieceTiles
