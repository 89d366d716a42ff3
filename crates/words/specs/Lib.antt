pub mod Words
pub mod Written
pub mod Layout
pub mod Hresult
