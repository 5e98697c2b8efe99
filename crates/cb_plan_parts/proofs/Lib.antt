-- Lemmas that plans over a grid share, by topic. Crates above cite those that are `pub`.
--
-- Grid: the number of a rank determines its row and column (`same_place`, `at_place`); the groups of ranks:
--   which ranks are in a row or a column (`in_row`, `in_column`), that their members are ranks (`row_exists`,
--   `column_exists`) and differ (`row_distinct`, `column_distinct`).
-- PartStarts: where the parts of a dimension begin (`start_zero`, `start_rises`, `start_within`, `start_last`), and
--   lists over a range that agree (`map_below`).
-- Everywhere: an operation of each rank, seen at one slot: the one it sets (`each_here`), another (`each_elsewhere`).
-- Groups: a broadcast in each of some groups: slots that stay (`groups_stay`), and the slot that is set (`groups_spread`).
-- Flows: acts that pass the check and shut no lane: two lists (`flows-append`), a list for each number of a range
--   (`flows_each`), an operation of each rank whose operands are there (`CanWork`, `works_flow`, `each_flows`),
--   and that such acts, followed by the shutting of all lanes, are a plan without a fault (`flows_check`).
-- GroupBroadcasts: a broadcast in each of some groups passes the check (`groups_flow`).
-- Starts: starts that are listed rank by rank: the slots at the start (`starts_there`, `starts_elsewhere`), that
--   they exist and name no slot twice (`all_starts`, `starts_once`); those of operands (`operands_there`,
--   `operands_elsewhere`, `operands_exist`, `operands_once`).
-- LoopGrowth: plans that grow in loops, within the limit of a plan, are refused only for want of memory.
-- Lengths: the most acts that there can be, on a grid of any side.
pub mod Grid
pub mod PartStarts
pub mod Everywhere
pub mod Groups
pub mod Flows
pub mod GroupBroadcasts
pub mod Starts
pub mod LoopGrowth
pub mod Lengths
-- Lemmas on collectives, by topic. Crates above cite those that are `pub`.
--
-- MemberPlaces: members of a list, their places (`place-below`, `member-place_of`, `at_place`), lists of distinct
--   members (`distinct_from_apart`, `same_member`), and the list turned so that the root is first (`turned_at-length`).
-- Counts: how many acts each collective appends: `count_broadcast`, `count_gather`, `count_all_to_all`,
--   `count_reduce`, and `count_shut` of cb_plan.
-- Spread: what a broadcast does to the slots, over blocks of any kind: `broadcast_spreads`.
-- SendMeaning: what sending a slot does (`act_sent`), and what gather and all_to_all do (`gather_gathers`,
--   `all_to_all_exchanges`).
-- ReduceMeaning, MemberTotals: what reduce does (`reduce_sums`), and that its sum is the sum at each place
--   (`members_add_up`).
-- ShutMeaning: shutting lanes changes no slot: `shut_nothing` of cb_plan.
-- BroadcastCheck: a broadcast passes the check (`broadcast_passes`) and shuts no lane (`broadcast_keeps_lanes`); a copy
--   passes too (`copy_is_sound`).
-- SendCheck: slots that are sent one after another pass the check (`sends_pass`) and shut no lane
--   (`sends_keep_lanes`); so does all_to_all (`all_to_all_passes`).
-- PlanGrowth: how a plan grows: not at all (`grew_none`), and twice (`grew_both`); the total length of lists of acts
--   (`length_up_to`). The rest is about the loops of this crate, which have room.
pub mod PlanGrowth
pub mod MemberPlaces
pub mod Counts
pub mod Spread
pub mod ShutMeaning
pub mod SendMeaning
pub mod ReduceMeaning
pub mod BroadcastCheck
pub mod MemberTotals
pub mod SendCheck
