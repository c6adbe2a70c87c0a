pub mod Wide
pub mod Multiplication
pub mod Division
pub mod MulInside
pub mod DivInside
