pub mod Desks
pub mod Lanes
pub mod Waiting
pub mod Laws
