-- Runs of stores under an allowance, and the laws of stores and runs.
pub mod Careful
pub mod Cautious
pub mod Run
pub mod TwoStores
pub mod Runs
