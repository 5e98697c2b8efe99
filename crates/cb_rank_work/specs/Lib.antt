-- Running: a plan that runs on one thread.
pub mod Running
-- Slots: operations on the slots of one rank.
pub mod Slots
-- FactorSlots: the factors of products, in slots.
pub mod FactorSlots
