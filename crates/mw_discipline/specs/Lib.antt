-- What a monitor is seen as, and what is inside: a byte for each block, and a list of those that wait.
pub mod Monitored
pub mod Inside
