pub mod Rings
pub mod Crews
pub mod Backs
pub mod CrewRooms
