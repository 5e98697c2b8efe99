-- The steps of this crate's own proofs; no other crate cites them. Numbers: letters that are numbered by their places. Rows: the
-- rows and columns of lanes, as they are opened.
pub mod Numbers
pub mod Rows
