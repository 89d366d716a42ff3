pub mod Determined
pub mod End
pub mod Steps
pub mod Tests
pub mod Written
