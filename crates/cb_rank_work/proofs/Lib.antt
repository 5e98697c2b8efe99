-- The steps of this crate's own proofs. SumInPlace: a product added in place. DoneActs: one act, done on the stores
-- of all ranks. RunSteps: a plan that runs. ProductsAtOnce: products that are added to one slot at once. PartsAppended: the same
-- in parts of the columns.
pub mod SumInPlace
pub mod DoneActs
pub mod RunSteps
pub mod ProductsAtOnce
pub mod PartsAppended
-- AddedProducts: products that are added to one slot, one after the other: each leaves the slots such that the others may
-- be added (`may_stay`); the slot exists (`sum_inside`). Crates above cite these.
pub mod AddedProducts
