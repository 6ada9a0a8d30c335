-- Lemmas of the exports.
mod Carrying
mod Expanding
mod Jumping
mod Logged
mod Naming
mod LentBoards
