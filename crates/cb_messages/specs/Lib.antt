-- Messages: letters as a head and lists.
pub mod Messages
