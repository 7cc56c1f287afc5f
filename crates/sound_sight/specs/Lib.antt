-- What one pass over an image tells, and the laws of the pass.
pub mod Sight
pub mod Pages
pub mod Blocks
pub mod Whole
pub mod Scans
