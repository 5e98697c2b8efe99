-- The toolbox of lemmas on ranks, by topic. Crates above cite the lemmas that are named here.
--
-- OwnActs: a rank's slots and lanes change only at acts of which it does a half: an act without one keeps its slots
--   (`quiet_act`); the acts before its first half keep slots and letters (`meaning-before_next`,
--   `letters-before_next`); one more half has the effect of its act (`meaning-next`, `letters-next`). A sound act has as
--   many halves at a rank as are counted (`counted`), at most one (`one_half`). `some_shape`, a filled slot has a shape.
-- ByOperation: what is proved operation by operation. `AllSome`, all slots of a list are filled.
-- Halves: the act of a half, by its kind: `is_post`, `is_take`, `is_work`, `is_shut`, `is_end`. What a half makes of slots
--   and letters that agree with the plan's meaning: `copied`, `arrived_slot`, `worked`. Slots that have shapes are filled
--   (`some_by_shape`, `all_some`).
-- WantedHalf: the half that a rank wants, by its kind: `wants_post_to`, `wants_shut_to`, `wants_take`, `wants_work`,
--   `wants_end`, `wants_nothing`.
-- NextAct: what a rank's next half finds (`finds`); its act (`act_of_half`, `next_one`), which is sound (`next_sound`,
--   `next_passes`) after the acts before it, by the shapes and lanes that these leave (`outline`, `lanes`), and is between
--   two ranks (`apart_of`, `apart_of_shut`). Of lists and truth values: `slice_get_right`, `both_below`, `not_true`.
-- RankAfterHalf: a rank stays one after each half: `posts_on`, `takes_on`, `works_on`, `shuts_on`, `ends_on`; it is one at
--   the start (`starts_as`), with its part of stores that fit (`fits_at`). `few_halves`, how long a program can be.
-- LanesByHalves: how the lanes on which a rank posts stand once it has done some halves: `lanes_by_halves`,
--   `posted_to-append`. Prefixes of lists: `take-next`, `take_none`, `take_past`.
-- Ports: the ports of a rank are open for its next half (`opens_post`, `opens_shut`); what a rank waits for (`waits_for`).
-- LostSlots: what is lost in the end: nothing if no rank was refused memory (`whole_by`), and otherwise blocks at ranks of
--   the plan that were refused memory (`lost_where_refused`).
pub mod OwnActs
pub mod ByOperation
pub mod Halves
pub mod WantedHalf
pub mod NextAct
pub mod RankAfterHalf
pub mod LanesByHalves
pub mod Ports
pub mod LostSlots
-- ProductsInTurn: products that are added to one slot, at once.
pub mod ProductsInTurn
-- WorksInTurn: a rank that adds products to one slot, one after the other.
pub mod WorksInTurn
