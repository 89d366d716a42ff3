pub mod Device
pub mod Urb
pub mod Sizes
pub mod Blind
pub mod Asked
pub mod Assigned
