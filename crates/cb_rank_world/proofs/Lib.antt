-- The toolbox of lemmas on worlds, by topic. Crates above cite the lemmas that are named here.
--
-- NextHalf: what a rank's next half finds: its lane open, and the letter that it wants or none (`finds_half`).
-- WorldAfterHalf: a half leaves a world (`does_keep`), in which its rank has changed (`rank_same`) and no other has
--   (`rank_other`).
-- Changes: after each half one half fewer remains (`does_lower`).
-- NoDeadlock: if no rank can act, all are done (`someone_acts`); a done rank has no half left (`is_done_by`); nothing remains
--   exactly if all are done (`none_remains`, `all_done_by`).
-- FirstState: a world in which nothing is done satisfies `IsWorld` (`begins`).
-- NewWorlds: there is a new world for every plan and stores that fit it (`some_world`).
pub mod NextHalf
pub mod WorldAfterHalf
pub mod Changes
pub mod NoDeadlock
pub mod FirstState
pub mod NewWorlds
-- The steps of this crate's own proofs.
--
-- LaneAfterHalf: one lane at a post, at a take, and at a step elsewhere.
-- SystemHalf: one half of one rank, as a running system sees it.
-- AgreementAfterHalf: one half of one rank preserves the agreement of the whole system.
-- Progress: if some rank isn't done, some rank can act, by the acts of the plan alone.
-- RankSums: sums over the ranks.
-- OwnEnds: a rank's ends of its lanes are its ports, as `Rank::step` requires.
-- OneStep: a step of a rank through its ends is a step of the world, and no stray comes; if it is starved, its count rises.
-- LastState: a world in which all are done is finished, and what its ranks leave holds what its plan means.
-- Posts: a post to a mailbox, as the rank that posts sees it.
-- Boxes: the mailbox of a rank, read by its number, and the loop that opens the mailboxes.
-- NewRanks: the ranks of a new world, made from their stores, the last first.
-- LaneNeeds: what a rank's next half needs of its lanes; a step as `World::step` leaves it.
-- LaneCalls: a run calls mailboxes, and what becomes of the letters in each.
pub mod LaneAfterHalf
pub mod SystemHalf
pub mod AgreementAfterHalf
pub mod Progress
pub mod RankSums
pub mod OwnEnds
pub mod OneStep
pub mod LastState
pub mod Posts
pub mod Boxes
pub mod NewRanks
pub mod LaneNeeds
pub mod LaneCalls
