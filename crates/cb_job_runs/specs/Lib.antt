pub mod FaultLines
pub mod Endings
pub mod Statuses
pub mod Parts
