pub mod Sums
pub mod Bits
pub mod Places
pub mod Counts
pub mod Permutes
pub mod Alu
