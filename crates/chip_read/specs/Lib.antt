-- What is read of an image, law by law.
pub mod Chip
pub mod Reads
pub mod Blank
pub mod Node
pub mod Blocks
pub mod AllReads
