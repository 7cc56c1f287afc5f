-- Keys with the same number: definitions, and the laws of parting them bit by bit.
pub mod Twins
pub mod Split
pub mod Second
