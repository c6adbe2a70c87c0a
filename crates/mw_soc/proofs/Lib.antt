-- What no call changes of the devices, and how much a load gives.
pub mod Laws
