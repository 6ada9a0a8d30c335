-- What a packet is, what shows the machine, where a run stops, and what a packet may change.
-- Definitions that contracts here cite are passed on.
pub use Rattle.rrs_lib.specs.Bytes
pub use Rattle.rrs_lib.specs.Machine
pub use Rattle.rrs_lib.specs.Executor
pub use Rattle.rrs_lib.specs.Loading
pub use Rattle.rrs_history.specs.Histories
pub use Rattle.rrs_trace.specs.Stops
pub use Rattle.hex.specs.Hex
pub mod Packets
pub mod Shown
pub mod Breaks
pub mod Harts
pub mod Sessions
pub mod Answers
