-- In reading order: what stands at a place of a line; the tokens of a whole line; what a token is by itself.
pub mod Pieces
pub mod Lines
pub mod Texts
