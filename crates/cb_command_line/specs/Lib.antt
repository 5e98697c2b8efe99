pub mod Asked
pub mod Jobs
pub mod Lines
pub mod Options
pub mod Table
