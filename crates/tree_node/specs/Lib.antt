-- What a node by value stands for, and the laws of its changes.
pub mod Node
pub mod Changes
