-- Calls: what C gets of a call. Handles: how C holds a kept matrix. KeptCalls: what C gets of a call that keeps one.
pub mod Calls
pub mod Handles
pub mod KeptCalls
