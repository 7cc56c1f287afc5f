-- The code of a half by words of eight bytes: that it is the one of the definition.
pub mod Rows
pub mod Words
pub mod Halves
pub mod Folds
pub mod Parts
