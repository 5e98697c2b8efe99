-- Rounds: what the sheets of a round have of a text. Answers: the text of an answer, before it is written.
pub mod Rounds
pub mod Answers
