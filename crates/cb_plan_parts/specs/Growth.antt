-- How a plan grows, as the collectives define it.
pub use Rattle.cb_plan_parts.specs.Appends.{IsWithinLimit, Grew, no_memory}
