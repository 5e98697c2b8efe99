-- Summa: the plan of a product, and of a product under a mask. ProductRows: worked plans.
pub mod Summa
pub mod ProductRows
