pub mod Pieces
pub mod Interface
