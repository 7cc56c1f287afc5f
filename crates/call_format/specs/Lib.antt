-- Laws by which format is proved.
pub mod Formats
