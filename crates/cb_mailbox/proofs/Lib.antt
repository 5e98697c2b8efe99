-- What crates above may cite is Exchanges: what a list of calls makes of the letters of each lane. The others are steps of
-- this crate's own proofs. Inboxes: the lanes of a mailbox, one of them changed. Runs: a list of calls, one more made.
-- Balance: what was posted is what was taken and is queued. Legality: the events of a list of calls are legal. LaneSteps:
-- what one call does on one lane.
pub mod Inboxes
pub mod Runs
pub mod Balance
pub mod Legality
pub mod LaneSteps
pub mod Exchanges
