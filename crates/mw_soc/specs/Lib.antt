-- In reading order: the data of the devices; the devices at any cycle; what stands where.
pub mod DeviceData
pub mod Devices
pub mod Map
