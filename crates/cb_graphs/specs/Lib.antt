-- Components: connected components. Forests: trees of vertices. Triangles: numbers of triangles.
-- Neighbours: lists of the neighbours of each vertex. Degrees: how many entries each row or column has.
-- GraphAnswers: the answer of each task.
pub mod Components
pub mod Forests
pub mod Triangles
pub mod Neighbours
pub mod Degrees
pub mod GraphAnswers
