pub mod Determined
pub mod Numbers
pub mod Pieces
