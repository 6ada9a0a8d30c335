-- What the definitions of rrs_lib are passed on for, since contracts here cite them.
pub use Rattle.rrs_lib.specs.Machine
pub use Rattle.rrs_lib.specs.Loading
pub use Rattle.rrs_lib.specs.VecBytes
-- What programs that run a file are asked, and what they print.
pub mod Limits
pub mod Requests
pub mod Texts
pub mod Printed
pub mod Faults
pub mod Failures
pub mod Account
