-- FirstSlots: the shapes with which slots begin. ListOfLists: one of several lists changes. DrivenHalves: a rank after each half. JoinedRanks: a rank's block of the answer.
pub mod FirstSlots
pub mod ListOfLists
pub mod DrivenHalves
pub mod JoinedRanks
