pub mod Inputs
pub mod Lists
pub mod TextPieces
