-- PlanParts: matrices whose parts lie in the slots of the ranks, and operations of all ranks.
-- Growth: how plans grow. Flows: acts that pass the check and leave each lane as it was.
pub mod PlanParts
pub mod Growth
pub mod Flows
-- Collectives: the acts that each collective appends, and what they do to the slots. Appends: how a plan grows,
-- and why it can't. CollectiveRows: worked examples.
pub mod Collectives
pub mod Appends
pub mod CollectiveRows
