pub mod Outside
pub mod Real
pub mod Shelf
pub mod Sure
pub mod Memory
