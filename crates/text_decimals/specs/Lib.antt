-- Numbers in decimal (requests 3 and 13): what they are, that reading and writing undo each other, and laws for the
-- code.
pub mod Decimals
pub mod Back
pub mod Reading
pub mod Writing
