-- WholeStarts: the starts by which each rank has a whole block. Rounds: what ranks cut, exchange in rounds, and add up.
-- Pieces: what the plan for reading leaves, and its acts. Panels: the same of the plan for writing.
pub mod WholeStarts
pub mod Rounds
pub mod Pieces
pub mod Panels
