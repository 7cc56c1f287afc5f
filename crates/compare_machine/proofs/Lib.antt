-- Theorems that the must-fail edits of this crate turn, and what rests on them.
pub mod Steps
pub mod Machine
