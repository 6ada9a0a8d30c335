-- What subcommands that run something do. Definitions of rrs_cli and rrs_linux are passed on, since
-- contracts here cite them.
pub use Rattle.rrs_linux.specs.SystemCalls
pub use Rattle.rrs_cli.specs.Faults
pub mod Quiet
pub mod Execution
pub mod Words
pub mod Architectures
pub mod Options
pub mod Requests
pub mod WrittenFiles
pub mod Advice
