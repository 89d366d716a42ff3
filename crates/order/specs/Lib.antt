pub mod Machine
pub mod Reorder
pub mod Ledger
