pub mod Engines
pub mod TraceTexts
pub mod Answers
pub mod JobEnds
