-- In reading order: draws from a number, instructions by their names, what a generated image is.
pub mod Draws
pub mod Instructions
pub mod Generated
