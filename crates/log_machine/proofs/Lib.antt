-- Theorems that the must-fail edits of this crate turn, and what rests on them.
pub mod Tallied
pub mod Steps
pub mod Machine
