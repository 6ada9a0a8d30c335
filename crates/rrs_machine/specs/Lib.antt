-- Machine mode: what CSRs keep, traps, steps, and records of steps.
pub mod Csrs
pub mod Traps
pub mod MachineSteps
pub mod Runs
pub mod Laws
pub mod MachineRecords
