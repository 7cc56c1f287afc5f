-- The record as the code takes it and carries it on, and its laws.
pub mod Recording
pub mod Recorded
