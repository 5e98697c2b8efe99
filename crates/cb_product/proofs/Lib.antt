-- The toolbox of lemmas on columns and their sums, by topic. Crates above cite what is named here; each lemma's own sentence
-- stands over it.
--
-- RowValues: the value of a column at a row: `absent_above` past all rows, `row_value-none` without rows, `row_value-push`
--   with one more entry; it is a value of the semiring (`row_value-value`, `one_value-value`); and the entries from the
--   n-th on, times a factor: `nth_product`, `scaled_value`, `scaled_split`, `scaled_end`.
-- ColumnSoFar: a column that is built entry by entry, `IsColumnSoFar`: `so_far_start`, `so_far_more`, `so_far_all`; and an
--   appended entry: `kept_none`, `kept_column`, `kept_sum`, `kept_rows`.
-- DenseRowSums: a column added to dense sums entry by entry: `entry_added`, `all_added`.
-- StoredColumn: a column stored after all others, `AddsColumn`: `column_adds`, `column_inside`, `none_of_column`.
-- ColumnsMade: a matrix that is built column by column, `IsMadeTo`: `made_none`, `made_past`, `made_more`, `made_all`; by
--   an ascending list of columns: `walk_none`, `walk_more`, `walk_all`, `before_column`; and which numbers such a list
--   leaves out: `before_first`, `between`, `below_next`, `absent_value`.
-- ProductColumns: a column of a product is a sum over the right column's entries: `column_total`, `stored_sum`,
--   whose terms are `inner`; and a column of a matrix by its rows and values: `own_column`.
-- OwnColumn: a column of a matrix is a sparse column, `own_sparse`.
-- AbsentColumns: columns without entries: `all_columns`, `nothing_there`.
-- OnlyColumns: a matrix without its entries outside given columns: `only_in`, `only_matrix`, `only_column`, `only_value`,
--   `only_all`; which numbers are among given ones: `among_from`, `among_holds`.
-- ColumnParts: listed columns of a matrix, one part after another: `parts_matrix`, `parts_joined`, `two_matrix`, `two_joined`;
--   with all columns they are the matrix, `whole_part`.
-- Panels: products with some columns, one after another: `panels_matrix`, `panels_joined`, `both_matrix`, `both_joined`;
--   with all columns they are the product, `whole_panel`.
-- SeveralProducts: a matrix plus a product is a matrix, `sum_matrix`, whose columns are `sum_at`, inside columns `sum_in`; so
--   is a matrix plus several products: `pairs_matrix`, `plus_matrix`, `plus_shape`, `plus_at`, `plus_in`; built column by
--   column: `plus_start`, `plus_more`, `plus_all`, `sum_here`; products that add nothing: `one_nothing`; a column of the sum: `terms_step`, `terms_end`,
--   `terms_all_past`; and the element at hand of a list: `item_has`, `mapped_has`.
-- EmptyFactors: a product with a matrix without entries has none: `product_vanishes`.
-- Outside: a column without its entries in excluded rows; `among_none`.
pub mod RowValues
pub mod ColumnSoFar
pub mod DenseRowSums
pub mod StoredColumn
pub mod ColumnsMade
pub mod ProductColumns
pub mod OwnColumn
pub mod AbsentColumns
pub mod OnlyColumns
pub mod ColumnParts
pub mod Panels
pub mod EmptyFactors
pub mod SeveralProducts
pub mod Outside
-- For this crate alone, beside the rest of those above. ScaledSum: two columns joined. TermSums: sums of terms. JoinedTerms: terms
-- joined one after another. Gathered: terms of entries that
-- follow one another. HeapStep: a
-- step of the merge by a heap. MarkBits, WordStep: marks, and the rows of a word of them. Union: two ascending lists
-- merged. ColumnStarts: where each column starts. Written: a vector that was lent as a slice and written to. ExcludedMarks:
-- the marks of excluded rows, set and removed.
pub mod ScaledSum
pub mod TermSums
pub mod JoinedTerms
mod Gathered
pub mod MarkBits
pub mod WordStep
pub mod HeapStep
pub mod Union
pub mod ColumnStarts
pub mod MarkedRows
mod Written
mod ExcludedMarks
