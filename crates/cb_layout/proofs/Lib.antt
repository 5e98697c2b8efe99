-- The toolbox of lemmas on layouts, by topic. Crates above cite what is named here; each lemma's own sentence
-- stands over it.
--
-- GluedTiles: the matrix of which tiles are the cuts: `tile_is_cut`.
-- GrownBlocks: a matrix without entries is one: `empty_is_matrix`. The rest, on blocks that grow entry by entry, is for
--   this crate.
pub mod GluedTiles
pub mod GrownBlocks
-- For this crate alone. ShiftedColumns: the entries of one column, with rows counted from a top row. EntryCounts: the
-- entries of a matrix, tile by tile.
pub mod ShiftedColumns
pub mod EntryCounts
-- A matrix walked where it stands, column by column. ColumnNumbers: the columns that have entries ascend. Splits: a
-- list of which a front is taken by one test. Fronts: the next column of each block. BlockColumns: the columns of the
-- blocks, with their places in the matrix that they glue to. RemainingEntries: the entries that are left.
pub mod ColumnNumbers
pub mod Splits
pub mod Fronts
pub mod BlockColumns
pub mod RemainingEntries
-- AppendedBlocks: blocks that grow by those of another matrix. CutBlocks: the same of lists of blocks that are cut.
-- Recasts: blocks taken over to another semiring.
pub mod AppendedBlocks
pub mod CutBlocks
pub mod Recasts
-- OneBlock: a grid of side 1 has the whole matrix as its only block.
pub mod OneBlock
-- PanelWalks: panels side by side, each walked as the only block of a grid. Panels: panels that are appended and joined.
pub mod PanelWalks
pub mod Panels
-- PanelValues: the value at a place of panels.
pub mod PanelValues
