-- Collection as the code makes it, and its laws.
pub mod Collect
pub mod Collecting
