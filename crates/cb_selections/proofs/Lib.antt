-- Crates above cite ExtractedColumns: rows and columns by their numbers, some of them, and those of some columns.
--
-- RegionValues: values in a region. RegionRanges: the part of a column in one. DiagonalColumn: the diagonal as a column.
-- DiagonalPlaces: a column as a diagonal. ListedRows: listed rows, and their entries where the numbers ascend. RowKeys: where
-- they don't, by keys. NumberPairs: a walk over pairs of numbers. ListMade: a column that is made row by row. PairedRows,
-- PairedColumns: those of a Kronecker product. FunctionResults: the results of a function in place of values. UpdatedPlaces: a
-- matrix updated by another one, place by place. PowerSteps: powers, one product after another. RangedColumns: the columns of a
-- range, one after another. KeptColumns: some that are stored where they were. ReplacedRows: a column whose rows in a range are
-- replaced. AssignedPart: a matrix with a part replaced, column by column.
mod AssignedPart
mod KeptColumns
mod ReplacedRows
mod FunctionResults
mod RegionValues
mod RegionRanges
mod DiagonalColumn
mod DiagonalPlaces
pub mod ExtractedColumns
mod ListedRows
mod RowKeys
mod NumberPairs
mod ListMade
mod PairedRows
mod PairedColumns
mod UpdatedPlaces
mod PowerSteps
mod RangedColumns
