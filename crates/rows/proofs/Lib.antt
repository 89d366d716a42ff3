pub mod Chains
pub mod Determined
pub mod Laws
