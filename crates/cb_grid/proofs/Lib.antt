-- The toolbox of lemmas on grids, by topic. Crates above cite what is named here; each lemma's own sentence stands
-- over it.
--
-- Parts: the ranks of a grid by row and column: `row_of_rank`, `column_of_rank`, `rank_of`, `rank_below`,
--   `row_below`; and the part of a dimension that has a place: `part_below`, `start_there`, `place_below`,
--   `own_below`, `own_part`, `part_order`.
-- Tiles: a shape cut into tiles, each place in one of them: `IsTiling`; an entry's tile and its place there, and the
--   entries and the matrix of a tile: `owner_of`, `moved`, `entries_of`, `entries_of_back`, `tile_of`, `tile_matrix`,
--   `tile_value`.
-- EntriesByTile: a matrix in a list of entries for each tile: `IsScattered`, `scattered_none`, `scattered_all`,
--   `tile_is`; and one more entry: `rank_of_one`, `inside_of_one`, `order_of_one`, `scattered_one`, or the next of a
--   slice: `next_is_owed`, `next_is_scattered`.
-- Cuts: the blocks of a matrix: `block_tiling`, `block_is`, and `glued_cut`, that they glue to it.
pub mod Parts
pub mod Tiles
pub mod EntriesByTile
pub mod Cuts
-- For this crate alone. SmallCases: what the definitions give in a few cases.
pub mod SmallCases
