-- What is known of the next instruction, from what its parts gave.
pub mod StepLemmas
pub mod StorageLemmas
