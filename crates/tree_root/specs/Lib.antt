-- The top of an update, and its laws.
pub mod Crown
pub mod Owns
pub mod Tops
