-- The export of request 13, as the code does it, and its laws.
pub mod Exporter
pub mod Exports
