-- For this crate alone. ChangedItems: items that are changed one by one.
mod ChangedItems
