pub mod AddDevice
pub mod UrbCompletion
pub mod Transfer
pub mod Message
