pub mod Numbers
pub mod Ends
