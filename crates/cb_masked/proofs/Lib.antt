-- The toolbox of lemmas on products under masks. Crates above cite what is named here; each lemma's own sentence stands over it.
--
-- SomeColumns: some columns of a matrix, by their places among those that have entries: `some_ascend`, `some_inside`, `in_some`,
--   `same_column`, `all_places`.
pub mod SomeColumns
-- For this crate alone. AscendingPlaces: the places of numbers in an ascending list, and a table of them. AddedSums: sums of
-- rows, to which columns are added. KeptSums: the sums that are stored. MaskedColumns: what a mask leaves of a product,
-- column by column. OutsideColumns: what its complement leaves.
mod AscendingPlaces
mod AddedSums
mod KeptSums
mod MaskedColumns
mod OutsideColumns
