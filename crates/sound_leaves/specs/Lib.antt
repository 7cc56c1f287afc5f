-- The keys of a leaf: what the counting loop finds, and its laws.
pub mod Leaves
pub mod LeafKeys
