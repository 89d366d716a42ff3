pub mod Entry
pub mod OnChannel
pub mod Table
