pub mod IllegalWords
mod AnyBytes
mod BitSums
pub mod OneLayer
pub mod OneShort
pub mod ShortRegisters
pub mod HalvesSteps
pub mod HalvesEnds
pub mod HartSteps
pub mod Fetches
pub mod Chains
pub mod WholeWords
pub mod KitsWords
pub mod HartRuns
pub mod HartLast
pub mod HartFaults
