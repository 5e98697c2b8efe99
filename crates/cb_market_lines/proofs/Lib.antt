-- The toolbox of lemmas on the lines of texts, by topic; each lemma's own sentence stands over it.
--
-- DigitByDigit: decimal numbers. FrontWords, WordNumbers: the number of a word. Cursor: a cursor's steps, as steps over lines
-- and words. LineFaults, Bodies: the faults of entries and of a whole text. NextEntries: the faults and the entries of a text,
-- one entry on. Law: the two statements about a text agree. OwnEntries: a matrix is what its own entries give.
pub mod DigitByDigit
pub mod Cursor
pub mod FrontWords
pub mod WordNumbers
pub mod LineFaults
pub mod Bodies
pub mod NextEntries
pub mod Law
pub mod OwnEntries
-- For this crate alone. NumberLines: lines of numbers. ShortNumbers: numbers of at most eight digits. HeaderWords: the words
-- of the header and of the size line. EntryWords: the words of the line of an entry.
mod NumberLines
mod ShortNumbers
mod HeaderWords
mod EntryWords
