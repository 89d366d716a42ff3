pub mod Determined
pub mod Laws
pub mod Walk
