-- The toolbox of lemmas on shares of a product. Crates above cite what is named here; each lemma's own sentence stands over
-- it.
--
-- Ranges: which columns a range has: `range_holds`, `range_has`; a matrix with the columns of all is the matrix,
--   `all_columns`.
-- Neighbours: neighbouring panels are the panel of both ranges, `neighbours_joined`, `joins`; entries whose columns are before
--   others are a matrix with these, `before_matrix`.
-- AnswerMatrices: what is computed of matrices is a matrix, `answer_matrix`.
pub mod Ranges
pub mod Neighbours
pub mod AnswerMatrices
-- For this crate alone. ColumnPlaces: where the columns of a range are among those that have entries. ColumnValues:
-- products with some columns are some columns of products. ByColumns: so are all computations by
-- columns, and updates. CopiedColumns: those of a range,
-- copied where they are. PanelColumns: some columns of a matrix in panels. PanelsBefore: panels whose columns are
-- before others. ListedColumns: those of rows and columns by their numbers. OuterColumns: those of a Kronecker product.
-- ShiftedColumns: those
-- of parts, and of matrices with a part in them.
-- PanelTotals: the sum of all values, panel by panel. Ends, LaterEnds: where ranges end. EntryRanges: where the entries of a
-- range of columns are among all. SumShares: sums over columns, made in shares; PanelSums: the
-- sum of all values in some columns, panel by panel. BorrowedMatrices: what holds of each of two or three operands.
mod ColumnPlaces
mod ColumnValues
mod ByColumns
mod CopiedColumns
mod ListedColumns
mod OuterColumns
mod ShiftedColumns
mod PanelColumns
mod PanelsBefore
mod TurnedColumns
mod PanelTotals
mod Ends
mod LaterEnds
mod EntryRanges
mod SumShares
mod PanelSums
mod BorrowedMatrices
