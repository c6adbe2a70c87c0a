-- In reading order: what a text determines, what a text of event lines is read as, and a run's summary; then what the
-- proofs alone need.
pub mod Determined
pub mod ReadLines
pub mod Summary
pub mod Inside
