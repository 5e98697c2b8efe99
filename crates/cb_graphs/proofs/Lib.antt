-- TaskRefusals: a task that is refused isn't taken.
-- For this crate alone. Undirected: the sum of a matrix and its transpose. Trees: trees of vertices. FlatTrees: trees in which all paths are short. Joined: the roots of trees
-- that span the graph are the least vertices of components. Counting: sums over ranges and over lists. AnyOrder: joined
-- triples are counted alike in every order. Listed: numbers that lists have in common. Later: orders of places. GrownLists:
-- one more list after others. Beside: lists of the places of neighbours. Apexes: all triangles, and those of one
-- vertex, by the places of their vertices. DegreeCounts, RowCounts: how many entries a column
-- and a row has.
pub mod Undirected
pub mod Trees
pub mod FlatTrees
pub mod Joined
pub mod Counting
pub mod AnyOrder
pub mod Listed
pub mod Later
pub mod GrownLists
pub mod Beside
pub mod Apexes
pub mod DegreeCounts
pub mod RowCounts
pub mod TaskRefusals
