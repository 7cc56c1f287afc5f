-- Between two parts of the input.
pub mod Emptied
-- What is written for what is read.
pub mod Answered
