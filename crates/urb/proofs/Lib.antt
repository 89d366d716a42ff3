pub mod Determined
pub mod Walk
