pub mod AllowedActs
pub mod AllowedCalls
pub mod AllowedTransfers
pub mod AllowedVectors
pub mod Buffers
pub mod Lent
pub mod Listing
pub mod ReadPaths
