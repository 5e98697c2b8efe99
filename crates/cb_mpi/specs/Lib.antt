-- ProcessHandles: how C holds a process. MessageHandles: how it holds a message.
pub mod ProcessHandles
pub mod MessageHandles
