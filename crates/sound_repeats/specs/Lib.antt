-- R3 on any image: definitions, and the laws of the parts.
pub mod Repeats
pub mod ByParts
