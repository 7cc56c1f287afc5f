-- Delete's own store, as the code makes it, and why it is the definition's.
pub mod Own
pub mod OwnStore
pub mod Tie
