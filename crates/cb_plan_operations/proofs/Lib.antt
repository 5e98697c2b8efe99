-- Lemmas on the plan of a product by a spread vector and on those of element-wise operations. Crates above cite:
--
-- VectorStarts: the slots with which the ranks start: `vector_starts_there`, the matrix's part and the vector's piece in
--   their slots; `vector_starts_elsewhere`, nothing in any other.
pub mod VectorStarts
-- For this crate alone. ResultBlocks: element-wise operations on the blocks of matrices make the blocks of the result, and
-- so does the transpose. Pointwise: what one operation of each rank leaves. Mirror: blocks that cross the diagonal.
-- PlacewiseLengths: the plans are short. Sides: the side of a grid, by its number of ranks.
pub mod ResultBlocks
pub mod Pointwise
pub mod Mirror
pub mod PlacewiseLengths
pub mod Sides
-- The product by a spread vector. RankPrograms: operations of each rank, one after the other. VectorSteps: what each
-- step does to the slots. Assembly: the pieces make the parts of a vector, and the pieces of the products those of the
-- result. SpreadProduct: the plan makes the product. VectorFlow: it passes the check. Loops: how its acts are appended.
-- VectorLengths: it is short.
pub mod RankPrograms
pub mod VectorSteps
pub mod Assembly
pub mod SpreadProduct
pub mod VectorFlow
pub mod VectorLengths
pub mod Loops
-- Sums of columns and of rows. GatheredSums: what each step does to the slots. SumsOfBlocks: the plans make the sums.
-- ReductionFlow: they pass the check. ReductionLengths: they are short.
pub mod GatheredSums
pub mod SumsOfBlocks
pub mod ReductionFlow
pub mod ReductionLengths
