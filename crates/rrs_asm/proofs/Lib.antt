pub mod Finding
pub mod Halves
pub mod Images
pub mod Made
pub mod Tables
