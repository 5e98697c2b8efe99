pub mod Ends
pub mod EndLaws
pub mod Worlds
pub mod WorldSteps
pub mod LaneCalls
pub mod Starting
