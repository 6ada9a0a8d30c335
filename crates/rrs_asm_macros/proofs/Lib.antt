pub mod Cutting
pub mod Mapping
pub mod Above
pub mod Becoming
mod Finding
mod Labels
mod Names
mod Told
