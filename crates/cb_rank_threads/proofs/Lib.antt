-- The steps of this crate's own proofs.
--
-- ThreadJoins: the loop that joins threads.
-- ToldThreads: recorders that are told of the events of all ranks' programs.
-- RanksInFaults: which ranks a failed run names.
-- TracedLogs: lists that have all events that were told, and a trace that they match.
pub mod ThreadJoins
pub mod ToldThreads
pub mod RanksInFaults
pub mod TracedLogs
