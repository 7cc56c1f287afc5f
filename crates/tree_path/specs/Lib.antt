-- An update's path, changed from the leaf up, and its laws.
pub mod Edit
pub mod Paths
pub mod WayUp
