pub mod GraphJobs
