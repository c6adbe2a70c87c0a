pub mod UartData
pub mod UartAt
pub mod Registers
pub mod Script
pub mod Pairs
pub mod Inside
