-- The toolbox of lemmas on values that are replaced: ReplacedColumns has a column of a matrix by its place among those that have
-- entries, `nth_are`; ReplacedColumn what becomes of a value that is stored, `of_stored-some`, and of none, `of_stored-none`.
pub mod ReplacedColumn
pub mod ReplacedColumns
-- For this crate alone. ColumnJoins: two columns joined, entry by entry. MatrixJoins: two matrices joined, column by column.
-- PrunedValues: the values of a pruned matrix. Searches: a binary search in a part of some rows.
mod ColumnJoins
mod MatrixJoins
mod PrunedValues
mod Searches
