-- The toolbox of lemmas on the texts of a job. OperandLemmas: texts that are taken out of a list one after the other, and
-- read. ReadFaults: the first text that isn't a matrix.
pub mod OperandLemmas
pub mod ReadFaults
-- For this crate alone. CutTexts: texts that are cut where lines end. ReadPieces: what is read of the pieces. BaseTexts: texts
-- that are read over the base of a semiring.
mod CutTexts
mod ReadPieces
mod BaseTexts
