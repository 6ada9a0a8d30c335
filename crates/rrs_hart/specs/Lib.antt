-- What the instructions of extension A do, and those of Zba to Zicond; a load or a store at any address; chains of steps; the
-- parts of a hart with a profile; a step of one that has the compressed instructions; what a
-- table of encodings keeps; a step of a hart, and a run.
pub mod Atomics
pub mod Bits
pub mod Anywhere
pub mod Chains
pub mod Profiles
pub mod Halves
pub mod Harts
