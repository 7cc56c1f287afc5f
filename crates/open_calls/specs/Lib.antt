-- Opening, and lookup and listing with a record.
pub mod Opening
pub mod Openings
