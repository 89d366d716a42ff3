pub mod Renumber
pub mod Alone
pub mod Reorder
pub mod Ledger
