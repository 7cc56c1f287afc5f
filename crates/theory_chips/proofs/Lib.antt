pub mod Collect
pub mod Deletion
pub mod Erase
pub mod Rooted
pub mod Insertion
