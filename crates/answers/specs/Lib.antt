pub mod Answer
pub mod Kind
pub mod Phase
