-- Distributed: a matrix by its blocks over a grid. Segments: its entries, column by column; Fronts: how far.
-- Panels: a matrix by blocks that stand side by side.
pub mod Distributed
pub mod Fronts
pub mod Segments
pub mod Panels
