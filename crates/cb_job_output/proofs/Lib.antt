-- The toolbox. WrittenAnswers: how a task ends whose answer is written, `written`, or that has none, `unanswered`.
pub mod WrittenAnswers
-- For this crate alone. SharePuts: shares that are put one after the other. LineLemmas: lines that are written after a text.
-- BaseTexts: texts that are written over the base of a semiring.
mod SharePuts
mod LineLemmas
mod BaseTexts
