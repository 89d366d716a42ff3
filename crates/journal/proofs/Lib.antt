pub mod Determined
pub mod Listing
pub mod Pieces
pub mod Records
pub mod Runs
