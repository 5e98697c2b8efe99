pub mod ThreadFaults
pub mod Started
pub mod ThreadRooms
pub mod ToldCrews
pub mod Traced
