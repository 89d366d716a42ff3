pub mod Device
pub mod Urb
pub mod Sizes
pub mod Payload
pub mod Assigned
