-- Counting and searching over the numbers below n: the laws of the model's `least`, `any`, `count`, `peak` and `arg`.
pub mod Least
pub mod Cases
pub mod Tally
pub mod Peak
pub mod Lowest
pub mod Scan
pub mod Blocks
