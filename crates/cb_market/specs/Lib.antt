pub mod Room
pub mod GrowingMatrices
pub mod Gathered
pub mod Pieces
