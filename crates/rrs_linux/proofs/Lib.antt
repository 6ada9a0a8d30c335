pub mod Determined
pub mod KnownStreams
pub mod Placed
pub mod Vectored
pub mod Written
