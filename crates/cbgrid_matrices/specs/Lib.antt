pub mod MatrixJobs
