-- For this crate alone. ListedColumns: the columns that have entries, each times the vector's value there, are the product.
mod ListedColumns
