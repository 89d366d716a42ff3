pub mod Cancel
pub mod Verdict
pub mod Request
pub mod Completion
pub mod Decide
