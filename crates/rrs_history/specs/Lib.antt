-- What the definitions of rrs_lib are passed on for, since contracts here cite them.
pub use Rattle.rrs_lib.specs.Bytes
pub use Rattle.rrs_lib.specs.Machine
pub use Rattle.rrs_lib.specs.Steps
pub use Rattle.rrs_lib.specs.Executor
pub use Rattle.rrs_lib.specs.Accesses
-- What a step changed, and the states that a history leads back to.
pub mod Changes
pub mod Histories
pub mod Calls
-- The code as seen by these.
pub mod Noting
pub mod Returns
