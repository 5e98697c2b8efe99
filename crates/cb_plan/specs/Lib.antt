-- Meaning: what acts do, over blocks of any kind. Algebras: on matrices, and on shapes alone.
-- Plans: plans as contracts see them. Checks: the first fault of a plan. Programs: the halves of each rank.
-- PlanLetters: what a plan posts on each lane. PlanTables: rows of equal length. Stores: the slots of the ranks.
-- Closings: the acts that shut all lanes. Runnable: a plan that can run as it is. SharedBlocks: blocks that are owned or lent. PlanRows: worked plans.
pub mod Meaning
pub mod Algebras
pub mod Closings
pub mod Plans
pub mod PlanTables
pub mod Checks
pub mod Programs
pub mod PlanLetters
pub mod Stores
pub mod Runnable
pub mod SharedBlocks
pub mod PlanRows
