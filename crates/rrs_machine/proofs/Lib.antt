-- Lemmas of this crate.
pub mod MachineStepping
pub mod Straying
mod Ending
pub mod MachineRuns
pub mod MachineLaws
pub mod Returning
pub mod KitRuns
pub mod Counting
pub mod Standing
pub mod LastRegister
