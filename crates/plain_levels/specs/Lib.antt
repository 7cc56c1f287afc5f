-- An update of the plain tree level by level: definitions, and why the code meets them.
pub mod Levels
pub mod Steps
