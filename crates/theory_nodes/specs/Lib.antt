-- What a tree of nodes is: entries whose keys rise, nodes in their order, live pages, the judge's statements, the path to a key.
pub mod Entries
pub mod Nodes
pub mod Live
pub mod Tied
pub mod Judge
pub mod Between
pub mod PathPlaces
