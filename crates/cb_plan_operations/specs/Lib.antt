-- GridPlans: the plans of the transpose and of element-wise operations, and what they leave. VectorPlans: the plan of a
-- matrix times a vector that is spread over all ranks. ReductionPlans: the plans of the sums of columns and of rows.
pub mod GridPlans
pub mod VectorPlans
pub mod ReductionPlans
