-- PlaceTables: a table of the places of numbers in a list. RowSums: sums, one for each row of a list. SomeColumns: a matrix
-- with some of its columns.
pub mod PlaceTables
pub mod RowSums
pub mod SomeColumns
