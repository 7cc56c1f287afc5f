-- What a move changes in the table and in the lent words: the laws of the code.
pub mod Marking
