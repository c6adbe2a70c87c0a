pub mod ShiftLemmas
pub mod Parts
pub mod OnesLemmas
pub mod Gathered
pub mod ParityLemmas
