-- Searching inside a node: the places that the code works out, and their laws.
pub mod Search
pub mod Places
pub mod Loops
