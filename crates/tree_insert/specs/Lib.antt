-- Insert's own stores, as the code makes them, and why they are the definition's.
pub mod Own
pub mod OwnStores
pub mod Tie
