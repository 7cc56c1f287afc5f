-- Insert and delete as one, and their laws.
pub mod Update
pub mod Stores
pub mod Updates
