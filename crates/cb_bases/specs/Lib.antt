-- Bases: semirings that differ in the product alone.
pub mod Bases
