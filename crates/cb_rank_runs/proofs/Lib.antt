-- The toolbox of crates above:
--
-- Courses: a rank's program only adds to what it posted and took (`Extends`, `grows`), and can be done in parts.
-- Crews: if each rank of a crew ran, together they hold what the plan means (`finishes_all`). Desks that can be settled
--   (`still_opening`); the counts of refusals and their sum (`is_finished`).
-- FinishedCrew: the same of what the ranks left (`ends_all`, `few_refused`).
-- LoggedEvents: the list of a whole log has the events that it was told of (`own_events`).
-- CrewSoFar: loops over ranks.
-- LeavingsSoFar: the loop that takes what each rank left (`HasJoined`); the first that left nothing (`first_gone`).
-- NamedRanks: which ranks a failed run names (`gone_is_rank`, `least_gone`).
-- OtherRanks: which ranks a run that gives up names; an error that is passed on (`err_is`).
--
-- The steps of this crate's own proofs:
--
-- ShutLanes: which lanes to a rank are shut before each of its halves.
-- HalfOverDesk: a rank and its desk after each half.
-- RunSoFar: the loop over a rank's halves.
-- Results: what a rank leaves in a slot, or posts, agrees with what the plan means.
-- Acts: one act of the plan, if each rank did its halves of it by itself.
-- ClosingLaw: the closing law, `closes`: if each rank did its program by itself, and what was taken on each lane is a prefix
--   of what was posted there, slots and lanes are what the whole plan means.
-- RecorderEvents: recorders that are told of the events of a rank's halves.
-- Example: two ranks that meet the hypotheses of the closing law, one of them refused memory.
pub mod Courses
pub mod Crews
pub mod FinishedCrew
pub mod LoggedEvents
pub mod CrewSoFar
pub mod LeavingsSoFar
pub mod NamedRanks
pub mod OtherRanks
pub mod ShutLanes
pub mod HalfOverDesk
pub mod RunSoFar
pub mod Results
pub mod Acts
pub mod ClosingLaw
pub mod RecorderEvents
mod Example
