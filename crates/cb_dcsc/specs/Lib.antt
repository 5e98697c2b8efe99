pub mod Compressed
pub mod Columns
pub mod BlockFaults
