-- What a caller that lends its memory is told of a source.
pub mod Lent
pub mod Telling
pub mod Steps
pub mod Heaps
pub mod Ownership
pub mod Rooms
