pub mod LastItems
pub mod NewRings
pub mod Sent
pub mod Backs
