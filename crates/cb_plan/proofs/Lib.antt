-- The toolbox of lemmas on plans, by topic. Crates above cite those that are `pub`.
--
-- Effects: what lists of acts do: `split`, a statement by the two cases of a test; `same_state`, states are
--   equal if their slots are; `meaning-append`, two lists of acts; `nothing_each`, lists of acts that
--   change nothing; `each_works`, an operation at each rank of a range.
-- ShapesOfMeaning: `shapes_of_meaning`, the shapes of the meaning are the meaning of the shapes; `act_turns` and
--   `meaning_turns`, the same for each map from one kind of block to another (`shape_turns`).
-- SoundActs: an act is sound exactly if no fault is found in it, `no_fault` and `is_no_fault`.
-- PassingActs: acts that pass: `no_fault_next`, the next act if there is no fault; `passes-append` and
--   `lanes_after-append`, of two lists; `move_is_sound` and `shut_is_sound`, of one act; `passes_check`, acts that
--   pass and shut each lane have no fault, and conversely `checked_passes` and `checked_shuts`.
-- CheckSteps: `next_element`, the rest of a list from the next element on.
-- StoredActs: the acts that a plan stores, and those after them: an act of the first is one of both (`is_inside`,
--   `same_element`), and past the first the second are left (`second_left`).
-- ShutMeaning: shutting lanes changes no slot: `shut_nothing`; nor does a plan's end, `closings_do_nothing`.
-- ShutCounts: how many acts shut all lanes: `count_shut`.
-- ShutCheck: shutting all lanes passes the check if they are open (`shut_acts_pass`), and shuts each
--   (`all_shut_after`).
-- Ranges: lists over a range of numbers that grows, by an element (`pushed`) or by a list (`extended`).
-- Cells: tables: `set_is_table` and `cell_after_set`, one place set; `blank_is_table` and `blank_cell`, one
--   value everywhere.
-- ActOnStores: `read_at`, an element read by its number; `first_below`, numbers below a limit; the
--   blocks in the slots after one is set, `state_after_set` and `none_lost_after_set`.
pub mod Effects
pub mod ShapesOfMeaning
pub mod SoundActs
pub mod PassingActs
pub mod Ranges
pub mod Cells
pub mod ActOnStores
pub mod CheckSteps
pub mod StoredActs
pub mod ShutMeaning
pub mod ShutCounts
pub mod ShutCheck
-- The steps of this crate's own proofs. AllOfRange: loops over ranges. ProjectionSteps: a projection. ClosingSteps:
-- the check of a plan's end. ClosingHalves: its projection. SlotCounts: slots that are not empty. FittingStores: stores
-- that fit a plan, by their count.
pub mod AllOfRange
pub mod ProjectionSteps
pub mod ClosingSteps
pub mod ClosingHalves
pub mod SlotCounts
pub mod FittingStores
