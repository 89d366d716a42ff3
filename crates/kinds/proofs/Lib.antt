pub mod Determined
pub mod Found
