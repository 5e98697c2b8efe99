-- RuleLaws: rules applied to zeros and to values. JoinedColumns: two columns joined, row by row. JoinedMatrices: two matrices
-- joined, place by place. Replaced: stored values replaced, row by row.
pub mod RuleLaws
pub mod JoinedColumns
pub mod JoinedMatrices
pub mod Replaced
