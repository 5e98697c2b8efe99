-- Firsts: the first fault of a call. TripleFaults: that of triples.
-- KeptFirsts: the matrices of a call. FirstMisfits: what a fault is about. WholeColumns: some or all columns of a result.
-- KeptJoins: two kept matrices that are joined.
pub mod Firsts
pub mod KeptFirsts
pub mod KeptJoins
pub mod WholeColumns
pub mod TripleFaults
pub mod FirstMisfits
