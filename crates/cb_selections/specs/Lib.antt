-- Extracted: rows and columns by their numbers. KernelSteps: what kernels make on their way to a selection. Updates:
-- a matrix updated by another one, under a mask. TurnedProducts: products of matrices that may be transposed. ListedRows: rows
-- that are listed. RowTables: tables of their places. RowKeys: keys of a column's entries in them.
pub mod Extracted
pub mod KernelSteps
pub mod Updates
pub mod TurnedProducts
pub mod ListedRows
pub mod RowTables
pub mod RowKeys
