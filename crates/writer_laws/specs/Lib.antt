pub mod Places
pub mod Layout
pub mod Rebuilt
pub mod Passed
pub mod ReadBack
pub mod Numbers
