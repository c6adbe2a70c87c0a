-- In reading order: expressions, operand lists, mnemonics and their index, a line by itself, what is known of its parts, and what answers say.
pub mod Expressions
pub mod Items
pub mod Mnemonics
pub mod Index
pub mod Lines
pub mod Bounds
pub mod Faults
