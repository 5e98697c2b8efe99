-- Files: the texts that files hold, and why they can't be loaded. StoredFiles: what reads of a file give. Loading: files in parts.
pub mod Files
pub mod StoredFiles
pub mod Loading
