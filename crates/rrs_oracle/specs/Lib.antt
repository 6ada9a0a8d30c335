pub mod Numerals
pub mod Questions
pub mod Taking
