-- Pages as the code builds them, and their laws.
pub mod Page
pub mod Building
pub mod Levels
