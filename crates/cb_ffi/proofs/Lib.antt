-- Calls: what C gets of a call. KeptCalls: what C gets of a call that keeps a matrix. EndsCalls: what it gets of the call
-- that parts a product's columns.
-- GivenMatrices: the first of some matrices that a call is given.
-- Steps: the imports of a walk, a proof by hand of a function that makes or reads a raw pointer.
pub mod Calls
pub mod KeptCalls
pub mod EndsCalls
pub mod GivenMatrices
pub mod Steps
