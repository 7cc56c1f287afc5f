pub mod Built
pub mod Few
pub mod Stores
pub mod Views
pub mod Writes
