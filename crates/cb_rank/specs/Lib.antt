pub mod Agreement
pub mod Halves
pub mod Ranks
pub mod Steps
pub mod Leavings
-- AddedProducts: products that halves add to one slot.
pub mod AddedProducts
