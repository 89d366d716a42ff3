pub mod Lies
pub mod Padded
pub mod Messages
pub mod Stated
pub mod Determined
