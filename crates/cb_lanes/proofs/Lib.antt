-- The steps of this crate's own proofs; no other crate cites them. NewDesks: desks, made from rows and columns. Pairs: the two
-- ends of each lane, compared.
pub mod NewDesks
pub mod Pairs
