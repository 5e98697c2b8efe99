pub mod Kinds
pub mod Lines
pub mod Cursor
pub mod Checks
pub mod Faults
pub mod Reads
pub mod Rows
