-- A board: its devices, by their data sheets; its registers and its memory; what the devices do
-- between two steps; runs, a board at a terminal, and runs of which each step is shown.
pub mod Uart
pub mod Clint
pub mod Finisher
pub mod Registers
pub mod Ram
pub mod Effects
pub mod Boards
pub mod Inputs
pub mod Terminals
pub mod WatchedBoards
