-- For this crate alone. ReadLemmas: reads of a file, one after the other. FileLemmas: files that can't be loaded.
mod ReadLemmas
mod FileLemmas
