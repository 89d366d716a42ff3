pub mod Admit
pub mod Store
pub mod Step
