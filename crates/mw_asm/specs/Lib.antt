-- In reading order, behind mw_syntax's: values and their bytes, what answers say of them, how large they are, labels, a whole source, what the answers of its two passes say, what it means, the disassembly of an image, and what its statements assemble to.
pub mod Values
pub mod Faults
pub mod Sizes
pub mod Labels
pub mod Assembled
pub mod Passes
pub mod Source
pub mod Disassembly
pub mod Again
