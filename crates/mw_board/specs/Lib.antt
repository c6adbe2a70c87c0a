-- In reading order: one cycle, and when a run is refused.
pub mod Turns
pub mod Faults
