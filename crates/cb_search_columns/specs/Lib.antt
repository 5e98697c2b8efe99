-- SearchColumns: a search as two columns, the numbers of the vertices so far and those that fell in the last round.
pub mod SearchColumns
