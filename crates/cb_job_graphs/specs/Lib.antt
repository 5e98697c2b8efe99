pub mod GraphTasks
