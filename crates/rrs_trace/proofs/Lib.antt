-- Lemmas of the steps that are told, and of the runs that stop.
pub mod TracedAccesses
pub mod HartAccesses
pub mod Stopping
pub mod StoppingCached
-- An access that is made outside of the machine.
mod OutsideSteps
mod LastWritten
