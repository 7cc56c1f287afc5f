-- What the proof of `read_pairs` leans on.
pub mod Lists
