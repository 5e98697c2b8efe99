-- Walks: walks in a graph, levels and distances. Numbers: the numbers of vertices so far. Searches: how they approach
-- the least costs of walks, round by round. Settling: how they become least, vertex after vertex. BreadthFirst: how vertices
-- get their levels, round by round. Parents: the parents of vertices in a breadth-first
-- search. SeveralSources: results from several sources, side by side. GivenNumbers: what is nearest from initial values that
-- some vertices have.
pub mod Walks
pub mod Numbers
pub mod Searches
pub mod Settling
pub mod BreadthFirst
pub mod Parents
pub mod SeveralSources
pub mod GivenNumbers
