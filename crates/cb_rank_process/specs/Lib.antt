-- Processes: one process of a grid, its matrices and the plan that it does. Results: what a plan brings the ranks. Begun: how a
-- process lays out operands, and what plan computes an operation. Kept: what it keeps when a plan ends. Texts: how it reads a
-- piece of a text. VertexNumbers: how it searches in a graph.
pub mod Processes
pub mod Results
pub mod Begun
pub mod Kept
pub mod Texts
pub mod VertexNumbers
