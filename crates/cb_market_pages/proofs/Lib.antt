-- The toolbox of lemmas on texts that are written, by topic; each lemma's own sentence stands over it.
--
-- Digits, Decimals: decimal numbers. EntryRoundTrip, MatrixRoundTrip: a matrix, written and read again. SegmentRests,
-- EntryRuns, WrittenBytes: the lines of entries, as they are written. ColumnTexts: those of a column.
pub mod Decimals
pub mod EntryRoundTrip
pub mod MatrixRoundTrip
pub mod Digits
pub mod SegmentRests
pub mod WrittenBytes
pub mod EntryRuns
pub mod ColumnTexts
