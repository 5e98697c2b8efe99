-- For this crate alone. KeptGraphFaults: the first fault of a task on a kept graph, and its answer.
mod KeptGraphFaults
