-- KeptGraphs: tasks on kept graphs.
pub mod KeptGraphs
