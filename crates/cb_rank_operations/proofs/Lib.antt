-- PlannedOperations: what an operation's plan makes of operands over a grid, and the trace that an engine keeps of it.
pub mod PlannedOperations
-- SteppedOrders: what ranks make that are stepped in an order, as an operation's.
pub mod SteppedOrders
-- SteppedProducts: products by vectors of ranks that were stepped in an order.
mod SteppedProducts
-- WalkLosses: blocks that ranks lose in a search.
mod WalkLosses
