-- Refusals: the faults of calls. Answers: what a call returns.
-- Kept: kept matrices. CallsOver: any call on them, by what it is over one semiring. KeptShares: some columns of its result,
-- and where ranges of columns end. KeptAnswers: what a call that has a number returns.
-- Triples: matrices of triples. KeptTexts: texts of kept matrices.
-- KeptExtracts: rows and columns by their numbers. KeptTurned: products of transposes.
-- KeptPanels: panels that are joined. KeptSums: shares of sums over columns. KeptUpdates: one updated by another, under a
-- mask. Misfits: what a fault of lists or triples is about.
pub mod Refusals
pub mod Answers
pub mod Kept
pub mod KeptAnswers
pub mod CallsOver
pub mod Triples
pub mod KeptTexts
pub mod KeptExtracts
pub mod KeptTurned
pub mod KeptUpdates
pub mod KeptPanels
pub mod KeptShares
pub mod KeptSums
pub mod Misfits
