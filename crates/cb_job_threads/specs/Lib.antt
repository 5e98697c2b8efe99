-- ItemCalls: functions that are called with items of a list.
pub mod ItemCalls
