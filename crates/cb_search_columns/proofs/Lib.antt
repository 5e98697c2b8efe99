-- The toolbox. ColumnRounds: a search as two columns, its start (`columns_begun`), a round (`columns_advanced`) and its end
-- (`columns_ended`). UnitCuts: the parts of a matrix of bits are those of one of weights (`cut_weights`), in which distances are
-- levels (`distances_levels`).
pub mod ColumnRounds
pub mod UnitCuts
-- For this crate alone. LowerBlocks: the blocks that are made.
pub mod LowerBlocks
