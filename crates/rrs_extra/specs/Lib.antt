-- What the definitions of rrs_lib are passed on for, since contracts here cite them.
pub use Rattle.rrs_lib.specs.Encodings
pub use Rattle.rrs_lib.specs.Table
pub use Rattle.rrs_lib.specs.Texts
pub use Rattle.rrs_lib.specs.Bytes
pub use Rattle.rrs_lib.specs.Machine
pub use Rattle.rrs_lib.specs.Steps
pub use Rattle.rrs_lib.specs.Executor
pub use Rattle.rrs_lib.specs.Accesses
-- A processor: the number of a row.
pub mod Numbering
-- A memory of pages.
pub mod Pages
pub mod PageFields
-- Laws over several calls: machines that agree, what texts show, and a program.
pub mod Agreement
pub mod Showing
pub mod Programs
