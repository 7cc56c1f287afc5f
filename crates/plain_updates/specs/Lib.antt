-- Theorems about an update of the plain tree on bytes: read Words and, for demands 1 and 2, Answers. And its stores
-- plan by plan are those level by level, as the code makes them.
pub mod Single
pub mod Laid
pub mod Insertion
pub mod Deletion
pub mod Words
pub mod Answers
pub mod Levels
pub mod Pages
pub mod InsertSame
pub mod DeleteSame
pub mod By
