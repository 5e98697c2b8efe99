pub mod ComputedTexts
pub mod Extracts
