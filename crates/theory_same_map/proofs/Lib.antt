-- Theorems that the must-fail edits of this crate turn, and what rests on them.
pub mod Leaves
pub mod Trees
pub mod Orders
pub mod Runs
pub mod Same
