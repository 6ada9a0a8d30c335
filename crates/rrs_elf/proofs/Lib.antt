pub mod Accepted
pub mod CheckLists
pub mod SegmentBytes
pub mod Standing
pub mod SymbolLists
pub mod SymbolsAccepted
pub mod Nearest
