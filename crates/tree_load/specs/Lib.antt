-- Nodes read by value, and their laws.
pub mod Load
pub mod Places
pub mod ByValue
pub mod Collapse
pub mod Falls
