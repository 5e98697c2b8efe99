-- For this crate alone. ResultColumns: how many columns results have that threads share.
mod ResultColumns
