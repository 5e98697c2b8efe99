-- The steps of this crate's own proofs; no other crate cites them. Appended: lists of events, one event longer. Posts:
-- where letters were posted. Chains: what is kept of the lanes, as events are recorded. Next: which event may come
-- next. Recorded: a trace with one event more.
pub mod Appended
pub mod Posts
pub mod Chains
pub mod Next
pub mod Recorded
