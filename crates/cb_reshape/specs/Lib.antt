-- Exchange: rows and columns exchanged. Moving: a part of some entries, moved. Rows: entries by their rows.
pub mod Exchange
pub mod Moving
pub mod Rows
-- Sums: sums of columns in a matrix of one row, and the sum of all values.
pub mod Sums
