pub mod More
pub mod Delivered
pub mod Blocks
pub mod Cell
pub mod Values
