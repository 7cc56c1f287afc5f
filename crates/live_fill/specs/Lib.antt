-- The lent words of live pages: the laws of the code.
pub mod LentWords
