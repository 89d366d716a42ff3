pub mod Determined
pub mod Steps
