-- In reading order: an instruction to be written over, which operands are illegal, the words that aren't carried out, what a word is, the code of an instruction, how the decoder finds a row.
pub mod Blank
pub mod Rules
pub mod Unavailable
pub mod Decode
pub mod Encode
pub mod Groups
