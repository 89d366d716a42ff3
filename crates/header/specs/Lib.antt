pub mod Ids
pub mod Header
