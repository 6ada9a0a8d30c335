-- How rrs ends.
pub mod Endings
pub mod Assembly
pub mod Files
