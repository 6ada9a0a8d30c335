-- Lemmas of what a step changed.
mod PutBack
mod NotedAccesses
mod Undoing
mod Written
-- Lemmas of histories.
mod Remembering
mod Keeping
mod Carrying
mod Returning
mod Forgetting
