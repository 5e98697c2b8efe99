-- Shares: panels of a product, and where ranges of its columns end. Sums: sums over columns, made in shares.
pub mod Shares
pub mod ByColumns
pub mod Sums
