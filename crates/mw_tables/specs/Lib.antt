-- In reading order: a row, the formats of instructions, where operands stand, that they have room, the rows, and which row a word or a name is.
pub mod Row
pub mod Formats
pub mod Layouts
pub mod Sound
pub mod Rows
pub mod Matching
