-- The toolbox of lemmas on blocks, by topic. Crates above cite what is named here; each lemma's own sentence
-- stands over it.
--
-- ColumnEntries: the entries of one column by its rows and values: `length-entries_in`, `entries_in-columns`,
--   `entries_in-column`, `entries_in_more`; a filter by the column: `in_column-all`, `in_column-none`; and the entries
--   of all columns: `pieces-all`, `pieces_same`.
-- Lookup: the value at a place by its column: `column_value`, `row_value-found`, `row_value-absent`,
--   `column_ascends`, `ascending_rows`; rows inside the shape and values of the semiring: `rows_inside`,
--   `column_values`, `all_rows_inside`, `all_values`; a column has as many values as rows: `as_long`.
-- NumbersOfColumns: the columns that have entries: `columns_all`, `entries_all`, `columns_inside`.
-- Ranges: the elements of a list from one place up to another: `no_range`, `range_join`, `range_both`, `range_front`,
--   `range_back`, `range_of_range`, `get_or-range`, `length-range`, `map-range`; what holds of them: `range_all`,
--   `range_ascends`; numbers that ascend do so after a move: `moved_ascend`.
-- WholeColumn: a column stored after all others comes after them: `column_before`.
-- Held: what a binary search tells: `same_number`, `not_found`; the block of four empty lists: `no_lists`, `no_block`;
--   what the four lists say of the entries: `count_is`, `columns_are`, `rows_are`, `values_are`, `start_within`,
--   `length-part`, `is_nth`, `nth_column_rows`.
-- Pushed: one more entry after all others: `matrix_push`, and in the lists `pushed_same`, `pushed_new`.
-- Faultless: an entry in order comes after those of the block: `next_after`.
-- Appended: entries added after all those of a block: `matrix_append`; without them it is a block: `matrix_front`.
-- Revalued: a matrix with other values at its places: `revalued_matrix`.
pub mod ColumnEntries
pub mod Lookup
pub mod NumbersOfColumns
pub mod Ranges
pub mod WholeColumn
pub mod Held
pub mod Pushed
pub mod Faultless
pub mod Appended
pub mod Revalued
-- For this crate alone, beside the rest of those above. Csc: compressed columns without the empty ones. NextColumn: what a
-- push of a column requires, from a matrix that ends with the column. LaterColumns: the columns of another block behind all others.
-- ColumnRange: some of these columns, moved. FirstFrom: where the numbers from a bound on begin. OneRow: the entries of one row
-- as a block.
pub mod Csc
mod ColumnRange
mod FirstFrom
mod OneRow
pub mod NextColumn
mod LaterColumns
