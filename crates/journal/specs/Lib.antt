pub mod Calls
pub mod Journal
pub mod Listing
pub mod Pieces
pub mod Record
