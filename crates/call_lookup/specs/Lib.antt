-- Lookup.
pub mod Lookup
