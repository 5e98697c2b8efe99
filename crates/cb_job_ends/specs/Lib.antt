pub mod Sinks
pub mod Writers
pub mod Texts
pub mod WriteEnds
