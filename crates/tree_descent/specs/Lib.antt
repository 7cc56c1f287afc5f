-- Descent from the root to a leaf.
pub mod Descents
