-- The reader of request 13, turn by turn, and its laws.
pub mod Reader
pub mod Reading
pub mod Turns
