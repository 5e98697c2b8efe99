-- Sparse: what a matrix is. Values: matrices by their values, sums, the product. Operations: each defined place by place.
-- Passing: the tests of prune. Combined, Products: the steps that build a matrix and the plain product.
pub mod Sparse
pub mod Values
pub mod Operations
pub mod Passing
pub mod Combined
pub mod Products
