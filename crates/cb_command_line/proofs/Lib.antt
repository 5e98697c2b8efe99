pub mod CommandLemmas
pub mod NegativeLemmas
pub mod OptionLemmas
pub mod PlainLemmas
pub mod WorkedRows
