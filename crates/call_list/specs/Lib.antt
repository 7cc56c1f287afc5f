-- A listing between two keys: what the walk fills and finds, how many pairs there can be, and the laws of the code.
pub mod Listing
pub mod Buffers
pub mod Few
pub mod Listings
