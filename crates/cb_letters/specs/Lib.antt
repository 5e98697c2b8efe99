pub mod Letters
pub mod Standing
pub mod Posted
pub mod Lane
pub mod Events
