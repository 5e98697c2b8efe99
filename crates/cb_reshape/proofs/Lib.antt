-- Exchanged: entries whose rows and columns are exchanged, in order. Counts: how many numbers are below a bound, and
-- their sums. ByRow: entries placed row by row. Bands: which are placed while a band is.
-- Turned: entries row by row are the transpose.
-- PartOfColumn, PartOfBlock: the part of one column, and of all columns one after another; a part with all rows. PartValues:
-- the value at each place of a part that was moved. ListedColumn: a list as a column.
mod Exchanged
mod Counts
mod ByRow
mod Bands
mod Turned
mod PartOfColumn
mod PartOfBlock
mod PartValues
mod ListedColumn
-- For this crate alone. StoredSums: the sum of a column over all rows is the sum of its stored values. SumsSoFar: the sums of
-- the columns that have entries, but for the zeros, make a row, which are the sums of all columns. TurnedSums: the sums of rows are those of
-- the columns of the transpose. AllValues: the sum of all values is the sum of the stored ones. RowTotals: sums of rows in a
-- list, to which entries are added one after another.
mod StoredSums
mod SumsSoFar
mod TurnedSums
mod AllValues
mod RowTotals
-- Crates above cite what is named here. Within: which rows a range has, `row_in`, `row_out`, `row_holds`; what a matrix has in a
-- range of rows is a matrix, `within_matrix`, with its values there, `within_value`, and none in other rows, `within_none`.
pub mod Within
