-- The toolbox. Searches: NearestRounds, a search, from its start to its end. UnitWeights: levels are distances if each
-- entry weighs 1. WalkCosts: how walks begin, grow and end, and what they cost. ColumnEdges: the rows of a column are
-- where edges come from. SettledVertices: vertices that settle one after another, and a bound for the work that is
-- left. VertexColumns: a column with an entry for each of some vertices.
pub mod NearestRounds
pub mod UnitWeights
pub mod WalkCosts
pub mod ColumnEdges
pub mod SettledVertices
pub mod VertexColumns
-- ShortWalks: for each walk a short one that costs no more. NumbersByRound: numbers that near the least costs, round by
-- round. TurnedProducts: a round is the product of the turned matrix. TakenNumbers, LowerEntries, NumberColumns,
-- FallenNumbers: the numbers known so far, those that fall, and their column. RelaxedEdges: the edges from one vertex.
-- TurnedUnits: levels on the transposed matrix. LevelRounds: levels up to a number of rounds. SearchRounds: the
-- vertices that a round of a breadth-first search reaches. UpRounds: a round from the bottom up, column by column.
-- LevelNumbers: numbers that are levels. LeastNearer: parents are nearer vertices. ParentFacts: who has a parent.
-- ColumnsBesides: columns of distances, side by side. NearestGiven: what is nearest from initial values. GivenEntries: these
-- are taken one after another.
pub mod ShortWalks
pub mod NumbersByRound
pub mod TurnedProducts
pub mod TakenNumbers
pub mod LowerEntries
pub mod NumberColumns
pub mod FallenNumbers
pub mod RelaxedEdges
pub mod TurnedUnits
pub mod LevelRounds
pub mod SearchRounds
pub mod UpRounds
pub mod LevelNumbers
pub mod LeastNearer
pub mod ParentFacts
pub mod ColumnsBesides
pub mod NearestGiven
pub mod GivenEntries
