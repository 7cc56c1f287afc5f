-- Request 7 of document 02: the lent words of live pages, and insert and delete with them. These a reader must believe.
pub mod Words
pub mod Live
-- and the laws of words
pub mod Ones
pub mod Filled
