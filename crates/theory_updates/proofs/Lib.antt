pub mod Beside
pub mod CollectBy
pub mod Insertion
pub mod Lists
pub mod UpdateBy
