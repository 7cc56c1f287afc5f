-- How many bytes of a log may still come, and laws for the code that reads it.
pub mod Left
pub mod Inputs
pub mod Taken
