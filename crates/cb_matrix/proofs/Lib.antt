-- The toolbox of lemmas on sparse matrices, by topic. Crates above cite what is named here; each lemma's own
-- sentence stands over it.
--
-- Equal: `matrix_is`, the lemma for every operation: a matrix is the one that has its values.
-- Made: the matrix of a function of row and column: `at-matrix_of` its values, `shape-matrix_of` its shape,
--   `IsMatrix-matrix_of` that it is one, `same_matrix_of` equal functions, `columns_all` what holds of all its entries.
--   `same_matrix`: matrices with the same value at each place are the same; `at-outside`: zero outside the shape.
-- Places: whether an entry is at a place (`is_at-own`, `is_at-parts`, `is_at-before`), and the value that a list
--   of entries has there: that of the first entry (`value_at-own`, `value_at-other`), of two lists
--   (`value_at-append_left`, `value_at-append_right`), before all entries (`value_at-before`, `IsPlaceBefore`),
--   where none is (`value_at-none`, `NoneAt`).
-- Totals: sums in a semiring: they are values (`total_value`, `each_value`, `value_at-value`), `add_zero`, of
--   nothing (`total-nil`), of one value (`total-one`), of two lists (`total-append`), of zeros (`total-zero`), of
--   values of which all but one are zero (`total-single`), of sums (`total-add`), of equal values (`total-same`);
--   four values in another order (`swap_middle`);
--   products that distribute over a sum of which one part is zero (`add_mul-zero`, `mul_add-zero`);
--   the values given at a place (`values_at-append`, `values_at-here`, `values_at-elsewhere`, `values_at-values`).
-- Split: a sum over a range of numbers, in two parts: `total_parts`.
-- Permuted: a sum in another order: `sum-permutation`, `sum_value`, `swap_two`.
-- Pairs: lists in which each element is related to each later one: `AllPairs-nil`, `-cons`, `-head`,
--   `-tail`, `-front`, `-last`, `-push`, `-append`, `-drop`; `All-front`, `All-last`.
-- Stored: an entry at the end of a list, unless it is zero: `stored_all`, `stored_value`, `stored_last`; and the values
--   of one entry (`value_at-one`, `one_none`) and before it (`none_before`).
-- Same: entries in order are determined by their values, `same_entries`; the order is transitive, `before_trans`.
pub mod Pairs
pub mod Places
pub mod Same
pub mod Made
pub mod Totals
pub mod Split
pub mod Permuted
pub mod Equal
pub mod Stored
-- For this crate alone. Order: a stable sort by place. Search: a binary search. Combine, InPlace, Collected: the
-- entries of each place are added up, in place, and make a matrix. Product: the products of all pairs of matching
-- entries make the product. Worked: the definitions computed on small matrices.
pub mod Order
pub mod Search
pub mod Combine
pub mod InPlace
pub mod Collected
pub mod Product
pub mod Worked
