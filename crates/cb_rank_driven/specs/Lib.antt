-- DrivenRanks: one rank, driven by another program, with what it posted and took. Joined: what the ranks of one run leave
-- together, wherever each of them ran. LaneLetters: the letters of a rank's lanes.
-- FirstStores: what a slot holds before the first half.
pub mod FirstStores
pub mod LaneLetters
pub mod DrivenRanks
pub mod Joined
