-- What the definitions of rrs_lib are passed on for, since contracts here cite them.
pub use Rattle.rrs_lib.specs.Encodings
pub use Rattle.rrs_lib.specs.Table
pub use Rattle.rrs_lib.specs.Instructions
pub use Rattle.rrs_lib.specs.Bytes
pub use Rattle.rrs_lib.specs.Machine
pub use Rattle.rrs_lib.specs.Steps
pub use Rattle.rrs_lib.specs.Executor
pub use Rattle.rrs_lib.specs.Accesses
-- What a step retires, and the memory that sees it.
pub mod Retired
pub mod HartRecords
pub mod Traced
-- Runs that stop at addresses.
pub mod Stops
-- An access that is made outside of the machine.
pub mod Outside
