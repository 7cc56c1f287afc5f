-- The store that moves a page, as the code makes it, and why it is the definition's.
pub mod Own
pub mod Moves
pub mod Tie
