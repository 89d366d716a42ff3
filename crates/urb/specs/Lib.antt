pub mod Interfaces
pub mod SelectConfiguration
pub mod SelectInterface
pub mod IsochTransfer
pub mod TsUrb
