pub mod Text
pub mod Sheets
