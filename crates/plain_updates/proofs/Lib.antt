pub mod By
pub mod Deletion
pub mod Insertion
pub mod Laid
pub mod Words
