-- Shared: what threads share, and where the ranges of each end.
pub mod Shared
