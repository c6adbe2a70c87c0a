-- In reading order: the controller's data; which interrupt is pending; what a load and a store do.
pub mod XicsData
pub mod Pending
pub mod Registers
pub mod Inside
