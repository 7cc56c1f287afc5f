-- The plain tree's calls: what an update counts before its stores, and laws by which the calls are proved.
pub mod Counts
pub mod Losses
pub mod Judged
